-- The owners of those that came are told.
use Rattle.watching.proofs.Gathering.{ArePartOwned}
use Rattle.watching.proofs.index.Index.of_all.Given as goal

abbrev pub invariant-loop-input : goal.invariant-loop-input
invariant-loop-input l = ArePartOwned l.outputs l.owners l.input-iterator
