-- The parts of a draft have no fault, in the words of values and of transactions.
use Rattle.std.proofs.Common.{◌≡◌, ℕ, ℤ, pos, ◌+◌, ◌<◌, Bool, true, false, cond, List, [], ◌∷◌, length, map, Result, Ok, Err, OnErr, refl, sym, ap, subst, ◌∙◌, arith}
use Rattle.std.specs.Prelude.{bytes_eq}
use Rattle.std.specs.List.{Any, AllZip, list_any, count_by}
use Rattle.std.proofs.lemmas.List.Folds.{list_any-from_Any}
use Rattle.std.proofs.lemmas.List.Sums.{sum_by-cons}
use Rattle.std.proofs.lemmas.Slice.Zip.{AllZip-long}
use Rattle.model.specs.Cbor.{nesting}
use Rattle.model.specs.Script.{item_of_script, script_hash_of}
use Rattle.model.specs.Transaction.{Output, KeyWitness}
use Rattle.model.specs.Value.{Mint}
use Rattle.value.specs.Parts as values
use Rattle.value.specs.Parts.{AssetQuantity, HasLongName, HasZero, HasRepeats}
use Rattle.value.specs.declared.asset_fault.AssetFault.TheVariants as asset_faults
use Rattle.tx.specs.Parts.{IsPartsFault, HasRepeatedKey, HasRepeatedScript, HasDeepScript, HasManyOutputs}
use Rattle.tx.specs.declared.parts_fault.PartsFault.TheVariants as faults
use Rattle.draft.specs.Draft.{Draft, IsOutputOf, IsSound, HasNoFault, parts_with, without_witnesses, witness_by, is_deep, is_long, is_zero}
use Rattle.draft.proofs.Assets.{any_as, below_true}

-- none passes the test
none_of : {X : Type 0} (P : X → Type 0) (p : X → Bool) (xs : List X) → ((x : X) → P x → p x ≡ true) → list_any p xs ≡ false → Any P xs → ⊥
none_of P p xs each none some =
    let there : list_any p xs ≡ true = list_any-from_Any p xs (any_as P (λ x. p x ≡ true) xs each some) in
    let no : true ≡ false = sym there ∙ none in
    absurd cc

zero_is : (z : ℤ) → z ≡ pos 0 → is_zero z ≡ true
zero_is z e = ap is_zero e

-- as many pass the test after a map
counted_map : {X Y : Type 0} (f : X → Y) (p : Y → Bool) (xs : List X) → count_by p (map f xs) ≡ count_by (λ x. p (f x)) xs
counted_map f p [] = refl
counted_map f p (x ∷ xs) =
    sum_by-cons (λ (y : _). cond (p y) 1 0) (f x) (map f xs) ∙ (λ i. cond (p (f x)) 1 0 + counted_map f p xs i) ∙ sym (sum_by-cons (λ (x : _). cond (p (f x)) 1 0) x xs)

module _ (d : Draft) (s : IsSound d) where
  mint_faultless : values.IsAssetFault (λ quantity. quantity) d.mint asset_faults.OutOfMemory
  mint_faultless = (
    none_of (λ a. 32 < length a.name) (λ (a : AssetQuantity ℤ). is_long a.name) d.mint (λ a lt. below_true 32 (length a.name) lt) s.names_short,
    none_of (λ a. a.quantity ≡ pos 0) (λ (a : AssetQuantity ℤ). is_zero a.quantity) d.mint (λ a e. zero_is a.quantity e) s.none_zero,
    λ r. s.assets_once (r.0, r.1) r.2,
  )

  module _ (outputs : List Output) (mint : Mint) (id : List ℕ) (same : AllZip IsOutputOf d.outputs outputs) where
    few : HasManyOutputs (parts_with d outputs mint id) → ⊥
    few many = let long = AllZip-long IsOutputOf d.outputs outputs same in let most = s.outputs_few in absurd (omega (arith, long, most, many))

    one_key : HasRepeatedKey (parts_with d outputs mint id) → ⊥
    one_key r =
        let signed = counted_map (λ (w : KeyWitness). w.key) (bytes_eq r.0) (map (witness_by id) d.signers) in
        let by = counted_map (witness_by id) (λ w. bytes_eq r.0 w.key) d.signers in
        s.keys_once r.0 (subst (λ n. 1 < n) (signed ∙ by) r.1)

    one_script : HasRepeatedScript (parts_with d outputs mint id) → ⊥
    one_script r = s.scripts_once r.0 (subst (λ n. 1 < n) (counted_map script_hash_of (bytes_eq r.0) d.scripts) r.1)

    all_flat : HasDeepScript (parts_with d outputs mint id) → ⊥
    all_flat = none_of (λ script. 61 < nesting (item_of_script script)) is_deep d.scripts (λ script lt. below_true 61 (nesting (item_of_script script)) lt) s.scripts_flat

    parts_faultless : IsPartsFault (parts_with d outputs mint id) faults.OutOfMemory
    parts_faultless = (record { inputs = λ r. s.inputs_once r.0 r.1; outputs = few }, one_key, one_script, all_flat)

bare_sound : (d : Draft) → IsSound d → IsSound (without_witnesses d)
bare_sound d s = record {
  inputs_once = s.inputs_once;
  outputs_few = s.outputs_few;
  names_short = s.names_short;
  none_zero = s.none_zero;
  assets_once = s.assets_once;
  keys_once = λ k h. absurd (omega (arith, h));
  scripts_once = λ k h. absurd (omega (arith, h));
  scripts_flat = refl;
}

pub no_fault : (d : Draft) → IsSound d → HasNoFault d
no_fault d s = record { mint = mint_faultless d s; whole = parts_faultless d s; body = parts_faultless (without_witnesses d) (bare_sound d s) }

-- what holds anyway holds of a refusal
pub on_err : {T E P : Type 0} (r : Result T E) → P → OnErr r P
on_err (Ok x) p = tt
on_err (Err e) p = p
