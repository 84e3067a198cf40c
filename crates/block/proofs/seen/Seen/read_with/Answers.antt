use Rattle.model.proofs.Results.{any_fault}
use Rattle.block.proofs.Kept.{is_readable}
use Rattle.block.proofs.SeenBlocks.{found_read}
use Rattle.block.proofs.seen.Seen.read_with.Goals as goal

pub returns-in_err-of_parts-in-Ok-clause-memory : goal.returns-in_err-of_parts-in-Ok-clause-memory
returns-in_err-of_parts-in-Ok-clause-memory g c =
    let found = found_read c.in-Ok-Ok.field-0 c.in-Ok-Ok.found c.deref.result.now c.args.bytes.items c.in-Ok-Ok.field-0-is c.in-Ok-Ok.ensures.block c.deref.ensures.value in
    any_fault c.from_residual.result _ (λ e want. is_readable c.args.bytes.items c.in-Ok-Ok.found found)

pub returns-in-Err-check-clause-memory : goal.returns-in-Err-check-clause-memory
returns-in-Err-check-clause-memory g c want =
    let found = found_read c.in-Ok-Ok.field-0 c.in-Ok-Ok.found c.deref.result.now c.args.bytes.items c.in-Ok-Ok.field-0-is c.in-Ok-Ok.ensures.block c.deref.ensures.value in
    is_readable c.args.bytes.items c.in-Ok-Ok.found found
