-- What a transaction changes in a UTXO, and how it is undone.
use Rattle.std.specs.Prelude.{ℕ, zero, suc, List, [], ◌∷◌, map, flat_map, option_to_list, refl}
use Rattle.std.specs.Coded.{Coded, code_by, coded×, coded_ℕ, coded_list}
use Rattle.model.specs.Transaction.{Input, Output, Transaction}
use Rattle.model.specs.Codes.{coded_input, coded_output}
use Rattle.model.specs.Utxo.{Utxo, output_at, place, new_pairs, without, with_pairs}

-- the pairs that were spent, the places of the outputs that were made, and the fee
pub record Diff : Type 0 where
  pub spent : List (Input × Output)
  pub made : List Input
  pub fee : ℕ

abbrev pub coded_diff : Coded Diff
coded_diff =
    code_by (List (Input × Output) × (List Input × ℕ))
    (coded× (coded_list (coded× coded_input coded_output)) (coded× (coded_list coded_input) coded_ℕ))
    (λ d. (d.spent, (d.made, d.fee)))
    (λ p. record { spent = p.0; made = p.1.0; fee = p.1.1 })
    (λ _. refl)

-- the pairs that these inputs would spend, as far as they stand there
abbrev pub pairs_at : Utxo → List Input → List (Input × Output)
pairs_at utxo inputs = flat_map (λ input. map (λ o. (input, o)) (option_to_list (output_at utxo input))) inputs

-- `count` places of the transaction with this identifier, from this index on
abbrev pub places_from : (id : List ℕ) → (index : ℕ) → (count : ℕ) → List Input
places_from id index zero = []
places_from id index (suc count) = place id index ∷ places_from id (suc index) count

-- DIFFERENCE OF A TRANSACTION
-- What it changes in the UTXO that it is applied to.
abbrev pub diff_of : Utxo → Transaction → Diff
diff_of utxo t =
    record { spent = pairs_at utxo t.inputs; made = map (λ p. p.0) (new_pairs t); fee = t.fee }

-- without the places that were made, and with the pairs that were spent
abbrev pub undone : Diff → Utxo → Utxo
undone d utxo = with_pairs d.spent (without d.made utxo)
