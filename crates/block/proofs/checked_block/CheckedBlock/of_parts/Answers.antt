use Rattle.std.proofs.Common.{◌≡◌, ◌∙◌, sym, ap, subst}
use Rattle.model.specs.Block.{Block, block_text}
use Rattle.block.specs.Facts.{block_of}
use Rattle.block.specs.Read.{IsRead}
use Rattle.block.proofs.Kept.{facts_in, block_is_in, read_text}
use Rattle.block.proofs.checked_block.CheckedBlock.of_parts.Goals as goal

pub of_parts-requires : goal.of_parts-requires
of_parts-requires g c = facts_in c.args.facts c.args.transactions.items c.args.bytes.items c.requires

pub returns-clause-block : goal.returns-clause-block
returns-clause-block g c = c.in_ok-block.ensures.block ∙ block_is_in c.args.facts c.args.transactions.items c.args.bytes.items c.requires

pub invariant_of-result : goal.invariant_of-result
invariant_of-result g c =
    let same : c.in_ok-block.block ≡ block_of c.args.facts c.args.transactions.items = returns-clause-block g c in
    record {
      read = subst (λ (b : Block). IsRead b (block_text b)) (sym same) (read_text (block_of c.args.facts c.args.transactions.items) c.args.bytes.items c.requires.read);
      transactions = ap (λ v. v.items) c.in-Ok.ensures.ok ∙ sym (ap (λ (b : Block). b.transactions) same);
    }
