-- What is found of the coins that are still to add is found at all.
use Rattle.std.proofs.Common.{◌≡◌, ◌≤◌, map, drop}
use Rattle.model.specs.Limits.{greatest_number}
use Rattle.genesis.specs.View.{entry_view}
use Rattle.hints.specs.GenesisSpots.{coin_spot}
use Rattle.hints.proofs.genesis_spot.first_miscounted.Given as goal

abbrev pub invariant-loop-output : goal.invariant-loop-output
invariant-loop-output l = record {
  still : coin_spot l.sum l.output (map entry_view (drop l.output l.entries)) ≡ coin_spot 0 0 (map entry_view l.entries);
  room : l.sum ≤ greatest_number;
}
