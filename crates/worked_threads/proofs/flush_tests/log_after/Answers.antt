use Rattle.flushing.proofs.ForCallers.{begins_with_none}
use Rattle.worked_threads.proofs.flush_tests.log_after.Goals as goal

pub flush-flushed-requires : goal.flush-flushed-requires
flush-flushed-requires g c = begins_with_none c.in-Ok.log.blocks _ c.in-Ok.ensures.blocks
