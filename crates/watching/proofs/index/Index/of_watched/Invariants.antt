-- With the watched ones of those that are still to come it has all that are watched.
use Rattle.watching.proofs.Gathering.{ArePartWatched}
use Rattle.watching.proofs.index.Index.of_watched.Given as goal

abbrev pub invariant-loop-input : goal.invariant-loop-input
invariant-loop-input l = ArePartWatched l.which l.outputs l.index l.input-iterator
