use Rattle.model.proofs.Results.{on_err}
use Rattle.block.proofs.Kept.{is_readable}
use Rattle.block.proofs.SeenBlocks.{found_read}
use Rattle.block.proofs.seen.Seen.read.Goals as goal

pub returns-in-Ok-clause-memory : goal.returns-in-Ok-clause-memory
returns-in-Ok-clause-memory g c =
    let found = found_read c.in-Ok-Ok.field-0 c.in-Ok-Ok.found c.deref.result.now c.args.bytes.items c.in-Ok-Ok.field-0-is c.in-Ok-Ok.ensures.block c.deref.ensures.value in
    on_err c.of_parts.result _ (is_readable c.args.bytes.items c.in-Ok-Ok.found found)

pub returns-in-Err-check_all-clause-memory : goal.returns-in-Err-check_all-clause-memory
returns-in-Err-check_all-clause-memory g c =
    let found = found_read c.in-Ok-Ok.field-0 c.in-Ok-Ok.found c.deref.result.now c.args.bytes.items c.in-Ok-Ok.field-0-is c.in-Ok-Ok.ensures.block c.deref.ensures.value in
    is_readable c.args.bytes.items c.in-Ok-Ok.found found
