use Rattle.std.proofs.Common.{sym, subst}
use Rattle.model.specs.Block.{Block}
use Rattle.block.specs.Read.{IsRead}
use Rattle.block.proofs.Kept.{read_text}
use Rattle.block.proofs.SeenBlocks.{read_bytes}
use Rattle.block.proofs.seen.Seen.of_parts.Goals as goal

pub invariant_of-result : goal.invariant_of-result
invariant_of-result g c =
    let read : IsRead c.in_ok-block.block c.args.bytes.items = subst (λ (b : Block). IsRead b c.args.bytes.items) (sym c.in_ok-block.ensures.block) c.requires.read in
    read_text c.in_ok-block.block c.args.bytes.items read

pub returns-clause-seen : goal.returns-clause-seen
returns-clause-seen g c =
    let read : IsRead c.in_ok-block.block c.args.bytes.items = subst (λ (b : Block). IsRead b c.args.bytes.items) (sym c.in_ok-block.ensures.block) c.requires.read in
    read_bytes c.in_ok-block.block c.args.bytes.items read
