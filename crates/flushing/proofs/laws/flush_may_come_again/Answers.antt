use Rattle.flushing.proofs.Growing.{begins_after, begins_through}
use Rattle.flushing.proofs.laws.flush_may_come_again.Goals as goal

pub returns-clause-event : goal.returns-clause-event
returns-clause-event c = begins_after

pub returns-clause-course : goal.returns-clause-course
returns-clause-course c = begins_through
