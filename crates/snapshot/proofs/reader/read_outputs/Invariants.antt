-- The outputs that were read are those of a front of the part.
use Rattle.std.proofs.Common.{length}
use Rattle.std.specs.FinMap as finite
use Rattle.snapshot.specs.View.{front_view}
use Rattle.snapshot.specs.Steps.{IsRead}
use Rattle.snapshot.proofs.reader.read_outputs.Given as goal

abbrev pub invariant-loop-rest : goal.invariant-loop-rest
invariant-loop-rest l = IsRead (front_view l.front) l.supply (finite.entries l.initial.outputs) (finite.entries l.outputs) l.part l.rest

abbrev pub decreases-loop-rest : goal.decreases-loop-rest
decreases-loop-rest l = length l.rest
