-- What is found of the outputs that are still to look at is found at all.
use Rattle.genesis.specs.View.{entry_view}
use Rattle.hints.specs.GenesisSpots.{address_spot}
use Rattle.hints.proofs.FirstFound.{IsStillFound}
use Rattle.hints.proofs.genesis_spot.first_homeless.Given as goal

abbrev pub invariant-loop-output : goal.invariant-loop-output
invariant-loop-output l = IsStillFound entry_view (address_spot l.network) l.entries l.output
