-- Who was told and who is still to be told are all of them.
use Rattle.std.specs.FinMap as finite
use Rattle.std.proofs.Common.{map}
use Rattle.model.specs.Value.{Named}
use Rattle.watching.specs.View.{holder_of}
use Rattle.watching.proofs.Holding.{IsPartTold}
use Rattle.watching.proofs.holders.holders.Given as goal

abbrev pub invariant-loop-outputs : goal.invariant-loop-outputs
invariant-loop-outputs l =
    IsPartTold (Named l.policy.bytes l.name) (finite.entries l.owners) (map holder_of l.holders.items) l.outputs-iterator
