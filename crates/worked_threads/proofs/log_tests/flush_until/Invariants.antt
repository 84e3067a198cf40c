use Rattle.model.specs.Signature.{test_verifies}
use Rattle.shared.specs.Starts.{network_from}
use Rattle.flushing.specs.Sharing.{BeginAfter}
use Rattle.worked_threads.proofs.log_tests.flush_until.Given as goal

-- what the log has are the first of the blocks that the caller knows to be never rolled back
abbrev pub invariant-loop : goal.invariant-loop
invariant-loop g l = BeginAfter (network_from g.B.Room.start test_verifies) l.caller.seen l.log.blocks
