use Rattle.model.specs.Signature.{test_verifies}
use Rattle.shared.specs.Starts.{network_from}
use Rattle.flushing.proofs.ForCallers.{nothing_begins}
use Rattle.worked_threads.proofs.log_tests.written.Goals as goal

pub flush_shared-flushed-requires : goal.flush_shared-flushed-requires
flush_shared-flushed-requires g c = nothing_begins (network_from g.B.Room.start test_verifies) c.height.new.caller.seen c.log_on-log.result.blocks c.height.ensures.legal c.log_on-log.ensures
