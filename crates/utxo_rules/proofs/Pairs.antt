-- How a loop spends inputs, and puts in outputs that are counted from 0 on.
use Rattle.std.proofs.Common.{◌≡◌, ℕ, ◌+◌, ◌<◌, ◌≤◌, Bool, true, false, ◌&&◌, List, length, drop, get_or, map, refl, sym, ap, ◌∙◌}
use Rattle.std.specs.List.{list_all}
use Rattle.std.specs.FinMap as finite
use Rattle.std.proofs.lemmas.List.{drop_all}
use Rattle.cbor.proofs.ForCallers.{drop_here}
use Rattle.model.specs.Transaction.{Input, Output, Transaction, transaction_id_of}
use Rattle.model.specs.Utxo.{Utxo, without, place, pairs_from, with_pairs, utxo_after}
use Rattle.model.proofs.Unspent.{without_next, without_none}
use Rattle.utxo_rules.proofs.ForCallers.{pairs_left, pair_here, no_pairs}
use Rattle.tx.specs.View.{input_of, output_of}
use Rattle.tx.specs.declared.input.Input.{Input as CodeInput}
use Rattle.tx.specs.declared.output.Output.{Output as CodeOutput}

-- ---- spending

-- without what is still to be spent it is what is asked for
abbrev pub IsPartWithout : (old now : Utxo) → List CodeInput → ℕ → Type 0
IsPartWithout old now inputs i = without (map input_of (drop i inputs)) now ≡ without (map input_of inputs) old

pub one_without : (old now new : Utxo) (inputs : List CodeInput) (i : ℕ) (x : CodeInput) → i < length inputs → x ≡ get_or inputs i x → new ≡ finite.remove now (input_of x) → IsPartWithout old now inputs i → IsPartWithout old new inputs (i + 1)
one_without old now new inputs i x lt is removed part =
    let rest = map input_of (drop (i + 1) inputs) in
    ap (without rest) removed ∙ without_next (input_of x) rest now
    ∙ ap (λ (xs : List CodeInput). without (map input_of xs) now) (sym (drop_here inputs i x lt is)) ∙ part

pub all_without : (old now : Utxo) (inputs : List CodeInput) (i : ℕ) → length inputs ≤ i → IsPartWithout old now inputs i → now ≡ without (map input_of inputs) old
all_without old now inputs i le part =
    sym (without_none now) ∙ ap (λ (xs : List CodeInput). without (map input_of xs) now) (sym (drop_all i inputs le)) ∙ part

-- ---- a test of the places

module _ (id : List ℕ) where
  abbrev pub pairs_from_here : List CodeOutput → ℕ → List (Input × Output)
  pairs_from_here outputs i = pairs_left output_of id outputs i

  module _ (test : Input → Bool) where
    -- the places that are left decide for all
    abbrev pub DecideForPlaces : List CodeOutput → ℕ → Type 0
    DecideForPlaces outputs i = list_all (λ p. test p.0) (pairs_from_here outputs i) ≡ list_all (λ p. test p.0) (pairs_from_here outputs 0)

    place_here : (outputs : List CodeOutput) (i : ℕ) (x : CodeOutput) → i < length outputs → x ≡ get_or outputs i x → list_all (λ p. test p.0) (pairs_from_here outputs i) ≡ (test (place id i) && list_all (λ p. test p.0) (pairs_from_here outputs (i + 1)))
    place_here outputs i x lt is = ap (list_all (λ (p : Input × Output). test p.0)) (pair_here output_of id outputs i x lt is)

    pub place_passes : (outputs : List CodeOutput) (i : ℕ) (x : CodeOutput) → i < length outputs → x ≡ get_or outputs i x → test (place id i) ≡ true → DecideForPlaces outputs i → DecideForPlaces outputs (i + 1)
    place_passes outputs i x lt is good left = sym (place_here outputs i x lt is ∙ rw good refl) ∙ left

    pub place_fails : (outputs : List CodeOutput) (i : ℕ) (x : CodeOutput) → i < length outputs → x ≡ get_or outputs i x → test (place id i) ≡ false → DecideForPlaces outputs i → false ≡ list_all (λ p. test p.0) (pairs_from_here outputs 0)
    place_fails outputs i x lt is bad left = sym (place_here outputs i x lt is ∙ rw bad refl) ∙ left

    pub places_pass : (outputs : List CodeOutput) (i : ℕ) → length outputs ≤ i → DecideForPlaces outputs i → true ≡ list_all (λ p. test p.0) (pairs_from_here outputs 0)
    places_pass outputs i le left = ap (list_all (λ (p : Input × Output). test p.0)) (sym (no_pairs output_of id outputs i le)) ∙ left

-- ---- a whole transaction

pub applied : (utxo after spent new : Utxo) (t : Transaction) (inputs : List CodeInput) (outputs : List CodeOutput) (id : List ℕ) → after ≡ utxo → map input_of inputs ≡ t.inputs → spent ≡ without (map input_of inputs) after
    → map output_of outputs ≡ t.outputs → id ≡ transaction_id_of t → new ≡ with_pairs (pairs_from id 0 (map output_of outputs)) spent → new ≡ utxo_after utxo t
unfolding utxo_after
applied utxo after spent new t inputs outputs id same are_inputs is_spent are_outputs is_id is_new =
    let left : spent ≡ without t.inputs utxo = is_spent ∙ ap (without (map input_of inputs)) same ∙ ap (λ (is : List Input). without is utxo) are_inputs in
    is_new ∙ ap (with_pairs (pairs_from id 0 (map output_of outputs))) left
    ∙ ap (λ (os : List Output). with_pairs (pairs_from id 0 os) (without t.inputs utxo)) are_outputs
    ∙ ap (λ (i : List ℕ). with_pairs (pairs_from i 0 t.outputs) (without t.inputs utxo)) is_id
