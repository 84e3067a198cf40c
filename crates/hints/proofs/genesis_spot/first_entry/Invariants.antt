-- What is found of the outputs that are still to look at is found at all.
use Rattle.toml.specs.View.{view}
use Rattle.hints.specs.GenesisSpots.{entry_spot}
use Rattle.hints.proofs.FirstFound.{IsStillFound}
use Rattle.hints.proofs.genesis_spot.first_entry.Given as goal

abbrev pub invariant-loop-output : goal.invariant-loop-output
invariant-loop-output l = IsStillFound view entry_spot l.value-items l.output
