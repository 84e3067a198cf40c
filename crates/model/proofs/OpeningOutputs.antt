-- What the unspent outputs before the first block are, and what they hold.
use Rattle.std.proofs.Common.{◌≡◌, ℕ, ◌+◌, ◌<◌, pos, true, not, List, [], ◌∷◌, length, map, Option, Some, None, refl, sym, ap, ◌∙◌, arith, is_some}
use Rattle.std.specs.Prelude.{slice_get, sum_by, option_map}
use Rattle.std.specs.List.{list_all}
use Rattle.std.specs.FinMap as finite
use Rattle.std.proofs.lemmas.Bool.{and_from}
use Rattle.std.proofs.lemmas.Int.{ints}
use Rattle.std.proofs.lemmas.List.{length-map}
use Rattle.std.proofs.lemmas.List.Sums.{sum_by-cons}
use Rattle.std.proofs.lemmas.Option.{slice_get-map}
use Rattle.model.specs.Value.{Ada}
use Rattle.model.specs.Transaction.{Input, Output, input_cmp}
use Rattle.model.specs.Utxo.{output_at, outputs_of, place, with_pairs, sum_of, coin_of}
use Rattle.model.specs.Genesis.{Grant, Genesis, supply_of, opening_id, output_of_grant, opening_pairs, opening_utxo}
use Rattle.model.proofs.Unspent.{at_new, at_other}
use Rattle.model.proofs.UtxoSums.{is_free, with_sum, ada_is_coin}

-- ---- where nothing stands

nothing_at : (input : Input) → output_at finite.empty input ≡ None
nothing_at input = finite.get-empty input_cmp input

all_free : (pairs : List (Input × Output)) → list_all (is_free finite.empty) pairs ≡ true
all_free [] = refl
all_free (p ∷ ps) = and_from (is_free finite.empty p) (list_all (is_free finite.empty) ps) (ap (λ (o : Option Output). not (is_some o)) (nothing_at p.0)) (all_free ps)

no_outputs : outputs_of finite.empty ≡ []
no_outputs =
    let none : finite.from_sorted {R = input_cmp} [] ≡ finite.empty {X = Output} = finite.empty_of_len _ (finite.len-entries _ ∙ ap length (finite.entries-from_sorted input_cmp [] tt)) in
    ap outputs_of (sym none) ∙ ap (map (λ (e : Input × Output). e.1)) (finite.entries-from_sorted input_cmp [] tt)

-- ---- what stands there

granted_at : (grants : List Grant) (index : ℕ) (grant : Grant) → slice_get grants index ≡ Some grant → slice_get (map output_of_grant grants) index ≡ Some (output_of_grant grant)
granted_at grants index grant is = slice_get-map output_of_grant grants index ∙ ap (option_map output_of_grant) is

pub opening_at : (genesis : Genesis) (index : ℕ) (grant : Grant) → slice_get genesis.grants index ≡ Some grant → output_at (opening_utxo genesis) (place opening_id index) ≡ Some (output_of_grant grant)
unfolding opening_utxo
opening_at genesis index grant is =
    let here : place opening_id index ≡ place opening_id (0 + index) = ap (place opening_id) (omega arith) in
    ap (output_at (with_pairs (opening_pairs genesis) finite.empty)) here
    ∙ at_new opening_id 0 (map output_of_grant genesis.grants) finite.empty index (output_of_grant grant) (granted_at genesis.grants index grant is)

pub opening_elsewhere : (genesis : Genesis) (input : Input) → ((index : ℕ) → index < length genesis.grants → input ≡ place opening_id index → ⊥) → output_at (opening_utxo genesis) input ≡ None
unfolding opening_utxo
opening_elsewhere genesis input elsewhere =
    let same = length-map genesis.grants output_of_grant in
    at_other opening_id 0 (map output_of_grant genesis.grants) finite.empty input (λ j below is. elsewhere j (omega arith) (is ∙ ap (place opening_id) (omega arith)))
    ∙ nothing_at input

-- ---- what they hold

coins_granted : (grants : List Grant) → coin_of (map output_of_grant grants) ≡ sum_by (λ g. g.coin) grants
coins_granted [] = refl
coins_granted (g ∷ gs) = ap (λ (n : ℕ). g.coin + n) (coins_granted gs) ∙ sym (sum_by-cons (λ (x : Grant). x.coin) g gs)

pub opening_holds : (genesis : Genesis) → coin_of (outputs_of (opening_utxo genesis)) ≡ supply_of genesis
unfolding opening_utxo
opening_holds genesis =
    let outputs = map output_of_grant genesis.grants in
    let sums = with_sum Ada opening_id 0 outputs finite.empty (all_free (opening_pairs genesis)) in
    let nothing : sum_of Ada (outputs_of finite.empty) ≡ pos 0 = ap (sum_of Ada) no_outputs in
    let after = ada_is_coin (outputs_of (with_pairs (opening_pairs genesis) finite.empty)) in
    let granted = ada_is_coin outputs in
    let coins = coins_granted genesis.grants in
    omega (arith, ints)
