-- A part that is let in leaves the parts of a draft without a fault.
use Rattle.std.proofs.Common.{◌≡◌, ℕ, ℤ, ◌<◌, Bool, true, false, ◌&&◌, ◌||◌, cond, List, [], ◌∷◌, ◌++◌, length, refl, sym, ap, ◌∙◌, arith, inl, inr}
use Rattle.std.specs.Prelude.{◌==◌, bytes_eq}
use Rattle.std.specs.List.{list_any}
use Rattle.std.proofs.lemmas.Bool.Decides.{nat_tests}
use Rattle.std.proofs.lemmas.List.{length-append}
use Rattle.std.proofs.lemmas.List.Folds.{list_any-append}
use Rattle.std.proofs.lemmas.List.Sums.{sum_by_push}
use Rattle.byte_keys.proofs.ForCallers.{bytes_from}
use Rattle.model.specs.Script.{Script, script_hash_of}
use Rattle.model.specs.Transaction.{Input}
use Rattle.value.specs.Parts.{AssetQuantity, is_of}
use Rattle.tx.specs.Repeats.{same_input}
use Rattle.draft.specs.Draft.{Draft, DraftOutput, Signer, AreOnce, AreSound, IsSound, has_input, has_asset, has_key, has_hash, is_deep, is_long, is_zero}
use Rattle.draft.proofs.Assets.{either_way, both_from, one_if, none_if, some_counted}
use Rattle.draft.proofs.Holding.{bytes_swap, same_tests, both_false}

-- ---- one more of what stands there once

module _ {K X : Type 0} (is : K → X → Bool) (of : X → K) (whose : (k : K) (x : X) → is k x ≡ true → k ≡ of x) where
  pub once_more : (xs : List X) (x : X) → list_any (is (of x)) xs ≡ false → AreOnce is xs → AreOnce is (xs ++ x ∷ [])
  once_more xs x free once k twice =
      let sum = sum_by_push (λ (y : X). cond (is k y) 1 0) xs x in
      elim (either_way (is k x)) [
        | inl here ↦
            let one = one_if (is k x) here in
            let some : list_any (is k) xs ≡ true = some_counted (is k) xs (omega (arith, sum, one, twice)) in
            let there : list_any (is (of x)) xs ≡ true = ap (λ (q : K). list_any (is q) xs) (sym (whose k x here)) ∙ some in
            let no : true ≡ false = sym there ∙ free in
            absurd cc
        | inr apart ↦
            let none = none_if (is k x) apart in
            once k (omega (arith, sum, none, twice))
      ]

-- one more that does not pass the test
none_more : {X : Type 0} (p : X → Bool) (xs : List X) (x : X) → list_any p xs ≡ false → p x ≡ false → list_any p (xs ++ x ∷ []) ≡ false
none_more p xs x none apart = list_any-append p xs (x ∷ []) ∙ both_false (list_any p xs) (p x || false) none (both_false (p x) false apart refl)

-- ---- the tests the other way round

number_swap : (i j : ℕ) → (i == j) ≡ (j == i)
number_swap i j = same_tests (i == j) (j == i) (λ h. grind (arith, nat_tests)) (λ h. grind (arith, nat_tests))

input_swap : (a b : Input) → same_input a b ≡ same_input b a
input_swap a b = λ i. bytes_swap a.transaction b.transaction i && number_swap a.index b.index i

number_from : (i j : ℕ) → (i == j) ≡ true → i ≡ j
number_from i j h = grind (arith, nat_tests)

same_from : (a b : Input) → same_input a b ≡ true → a ≡ b
same_from a b h =
    let both = both_from (bytes_eq a.transaction b.transaction) (a.index == b.index) h in
    let transaction = bytes_from a.transaction b.transaction both.0 in
    let index = number_from a.index b.index both.1 in
    λ i. record { transaction = transaction i; index = index i }

asset_from : (k : List ℕ × List ℕ) (a : AssetQuantity ℤ) → is_of k.0 k.1 a ≡ true → k ≡ (a.policy, a.name)
asset_from k a h =
    let both = both_from (bytes_eq k.0 a.policy) (bytes_eq k.1 a.name) h in
    let policy = bytes_from k.0 a.policy both.0 in
    let name = bytes_from k.1 a.name both.1 in
    λ i. (policy i, name i)

-- ---- drafts

module _ (d : Draft) (s : IsSound d) where
  pub input_sound : (input : Input) → has_input input d.inputs ≡ false → AreSound (d.inputs ++ input ∷ []) d.outputs d.mint d.signers d.scripts
  input_sound input free = record {
    inputs_once = once_more same_input (λ x. x) same_from d.inputs input ((λ i. list_any (λ other. input_swap input other i) d.inputs) ∙ free) s.inputs_once;
    outputs_few = s.outputs_few;
    names_short = s.names_short;
    none_zero = s.none_zero;
    assets_once = s.assets_once;
    keys_once = s.keys_once;
    scripts_once = s.scripts_once;
    scripts_flat = s.scripts_flat;
  }

  pub output_sound : (output : DraftOutput) → length d.outputs < 65536 → AreSound d.inputs (d.outputs ++ output ∷ []) d.mint d.signers d.scripts
  output_sound output few = record {
    inputs_once = s.inputs_once;
    outputs_few = let long = length-append d.outputs (output ∷ []) in omega (arith, long, few);
    names_short = s.names_short;
    none_zero = s.none_zero;
    assets_once = s.assets_once;
    keys_once = s.keys_once;
    scripts_once = s.scripts_once;
    scripts_flat = s.scripts_flat;
  }

  pub mint_sound : (a : AssetQuantity ℤ) → is_long a.name ≡ false → is_zero a.quantity ≡ false → has_asset a.policy a.name d.mint ≡ false → AreSound d.inputs d.outputs (d.mint ++ a ∷ []) d.signers d.scripts
  mint_sound a short some free = record {
    inputs_once = s.inputs_once;
    outputs_few = s.outputs_few;
    names_short = none_more (λ (a : AssetQuantity ℤ). is_long a.name) d.mint a s.names_short short;
    none_zero = none_more (λ (a : AssetQuantity ℤ). is_zero a.quantity) d.mint a s.none_zero some;
    assets_once = once_more (λ (k : List ℕ × List ℕ). is_of k.0 k.1) (λ a. (a.policy, a.name)) asset_from d.mint a free s.assets_once;
    keys_once = s.keys_once;
    scripts_once = s.scripts_once;
    scripts_flat = s.scripts_flat;
  }

  pub signer_sound : (signer : Signer) → has_key signer.key d.signers ≡ false → AreSound d.inputs d.outputs d.mint (d.signers ++ signer ∷ []) d.scripts
  signer_sound signer free = record {
    inputs_once = s.inputs_once;
    outputs_few = s.outputs_few;
    names_short = s.names_short;
    none_zero = s.none_zero;
    assets_once = s.assets_once;
    keys_once = once_more (λ key (signer : Signer). bytes_eq key signer.key) (λ signer. signer.key) (λ key signer. bytes_from key signer.key) d.signers signer
        ((λ i. list_any (λ other. bytes_swap signer.key other.key i) d.signers) ∙ free) s.keys_once;
    scripts_once = s.scripts_once;
    scripts_flat = s.scripts_flat;
  }

  pub script_sound : (script : Script) → is_deep script ≡ false → has_hash (script_hash_of script) d.scripts ≡ false → AreSound d.inputs d.outputs d.mint d.signers (d.scripts ++ script ∷ [])
  script_sound script flat free = record {
    inputs_once = s.inputs_once;
    outputs_few = s.outputs_few;
    names_short = s.names_short;
    none_zero = s.none_zero;
    assets_once = s.assets_once;
    keys_once = s.keys_once;
    scripts_once = once_more (λ hash (script : Script). bytes_eq hash (script_hash_of script)) script_hash_of (λ hash script. bytes_from hash (script_hash_of script)) d.scripts script
        ((λ i. list_any (λ other. bytes_swap (script_hash_of script) (script_hash_of other) i) d.scripts) ∙ free) s.scripts_once;
    scripts_flat = none_more is_deep d.scripts script s.scripts_flat flat;
  }
