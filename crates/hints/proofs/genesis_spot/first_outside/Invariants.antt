-- What is found of the numbers that are still to look at is found at all.
use Rattle.hints.specs.GenesisSpots.{bound_spot}
use Rattle.hints.specs.SpotView.{bounded_view}
use Rattle.hints.proofs.FirstFound.{IsStillFound}
use Rattle.hints.proofs.genesis_spot.first_outside.Given as goal

abbrev pub invariant-loop-bounded : goal.invariant-loop-bounded
invariant-loop-bounded l = IsStillFound bounded_view (λ n b. bound_spot b) l.bounds l.bounded-index
