-- What is found at the keys that are still to look at is found at all.
use Rattle.std.proofs.Common.{ℕ, List, Bor}
use Rattle.toml.specs.View.{table_view}
use Rattle.hints.specs.GenesisSpots.{number_spot}
use Rattle.hints.proofs.FirstFound.{IsStillFound}
use Rattle.hints.proofs.genesis_spot.lacking.Given as goal

abbrev pub invariant-loop-key : goal.invariant-loop-key
invariant-loop-key l = IsStillFound (λ (text : Bor (List ℕ)). text.now) (λ n key. number_spot key (table_view l.table)) l.keys l.key-index
