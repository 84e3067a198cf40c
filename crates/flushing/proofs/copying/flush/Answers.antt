use Rattle.std.proofs.Common.{[], refl}
use Rattle.chain_core.specs.Immutable.{immutable_texts}
use Rattle.flushing.proofs.OnLogs.{left_as_it_was}
use Rattle.flushing.proofs.copying.flush.Goals as goal

pub returns-in-Err-clause-crash : goal.returns-in-Err-clause-crash
returns-in-Err-clause-crash g c = λ sound.
    let log = c.args.log.now in
    record { since = []; goes_on = refl; each = tt; here = left_as_it_was _ log.blocks (immutable_texts g.S.SigScheme.verifies c.args.core.now) (g.D.Disk.moment log.disk) c.requires (c.durable.ensures.left sound) }

pub returns-in-Err-clause-crash_now : goal.returns-in-Err-clause-crash_now
returns-in-Err-clause-crash_now g c = λ sound.
    let log = c.args.log.now in
    left_as_it_was _ log.blocks (immutable_texts g.S.SigScheme.verifies c.args.core.now) (g.D.Disk.moment log.disk) c.requires (c.durable.ensures.left sound)
