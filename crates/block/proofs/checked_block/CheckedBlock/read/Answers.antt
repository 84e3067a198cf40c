use Rattle.std.proofs.lemmas.Result.{IfOk-at_ok}
use Rattle.model.proofs.Results.{if_err}
use Rattle.block.specs.declared.fault.ReadFault.TheVariants.{OutOfMemory}
use Rattle.block.specs.Read.{IsRead, IsReadFault}
use Rattle.block.proofs.Kept.{is_readable}
use Rattle.block.proofs.checked_block.CheckedBlock.read.Goals as goal

pub returns-in_err-into_checked_block-in-Ok-clause-fault : goal.returns-in_err-into_checked_block-in-Ok-clause-fault
returns-in_err-into_checked_block-in-Ok-clause-fault g c =
    let read = IfOk-at_ok (λ b. IsRead b c.args.bytes.now) c.in-Ok.is c.in_ok-found.ensures.block in
    if_err c.from_residual-in_err-into_checked_block-in-Ok.result OutOfMemory (IsReadFault c.args.bytes.now) c.from_residual-in_err-into_checked_block-in-Ok.ensures.1 (is_readable c.args.bytes.now c.in-Ok.found read)
