-- What the log has are the first of the blocks that no rollback reaches, those that it had among them, and so is what a
-- crash leaves.
use Rattle.model.specs.Disk.{Leaves}
use Rattle.model.specs.Log.{OpensToBeginning}
use Rattle.std.specs.Prelude.{length}
use Rattle.shared.specs.Starts.{network_from}
use Rattle.flushing.specs.Sharing.{BeginAfter}
use Rattle.flushing.specs.Texts.{Begins}
use Rattle.hosting.specs.Keeping.{IsKept}
use Rattle.hosting.proofs.store.flush_in_turn.Given as goal

abbrev pub invariant-flushes : goal.invariant-flushes
invariant-flushes g l = record {
  begins : BeginAfter (network_from g.B.Room.start g.S.SigScheme.verifies) l.caller.seen l.log.blocks;
  stay : Begins l.fn.log.blocks l.log.blocks;
  keeps : Leaves (OpensToBeginning (length l.fn.log.blocks) l.fn.log.blocks) (g.D.Disk.moment l.fn.log.disk)
      → IsKept (network_from g.B.Room.start g.S.SigScheme.verifies) l.caller.seen l.fn.log.blocks l.log.blocks
      (g.D.Disk.past l.fn.log.disk) (g.D.Disk.past l.log.disk) (g.D.Disk.moment l.log.disk);
}
