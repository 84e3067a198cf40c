-- The places that are left decide for all.
use Rattle.std.specs.Prelude.{is_some, not}
use Rattle.model.specs.Utxo.{output_at}
use Rattle.utxo_rules.proofs.Pairs.{DecideForPlaces}
use Rattle.utxo_rules.proofs.conditions.has_free_places.Given as goal

abbrev pub invariant-loop-index : goal.invariant-loop-index
invariant-loop-index l = DecideForPlaces l.id.bytes (λ input. not (is_some (output_at l.utxo input))) l.outputs l.index
