-- Whether assets are at fault, as a test finds it and as the definitions of values say it.
use Rattle.std.proofs.Common.{◌≡◌, ℕ, pos, ◌<◌, Bool, true, false, ◌&&◌, ◌||◌, cond, List, [], ◌∷◌, length, refl, sym, ap, subst, ◌∙◌, arith, inl, inr}
use Rattle.std.specs.Prelude.{◌⊎◌, ◌==◌, nat_lt, bytes_eq}
use Rattle.std.specs.List.{Any, list_any, count_by}
use Rattle.std.proofs.lemmas.Bool.{false_from_ne_true}
use Rattle.std.proofs.lemmas.Bool.Decides.{nat_tests}
use Rattle.std.proofs.lemmas.List.Folds.{Any-from_list_any, list_any-from_Any}
use Rattle.std.proofs.lemmas.List.Sums.{sum_by-cons}
use Rattle.byte_keys.proofs.ForCallers.{bytes_from, bytes_self}
use Rattle.model.specs.Cbor.{HasText}
use Rattle.model.specs.Value.{Value, IsValue, item_of_value}
use Rattle.value.specs.Parts.{AssetQuantity, IsValueOf, HasLongName, HasZero, HasRepeats, IsAssetFault, is_of}
use Rattle.value.specs.declared.asset_fault.AssetFault.{AssetFault}
use Rattle.value.specs.declared.asset_fault.AssetFault.TheVariants as faults
use Rattle.value.proofs.ForCallers.{no_value}
use Rattle.draft.specs.Draft.{is_at_fault, is_long, has_asset, has_twice}
use Rattle.draft.specs.Refusal.{IsFaultRefusal, draft_fault_of}
use Rattle.draft.proofs.Holding.{left_true, right_true, both_false}

pub either_way : (b : Bool) → (b ≡ true) ⊎ (b ≡ false)
either_way true = inl refl
either_way false = inr refl

one_of : (a b : Bool) → a || b ≡ true → (a ≡ true) ⊎ (b ≡ true)
one_of true b h = inl refl
one_of false b h = inr h

pub both_from : (a b : Bool) → a && b ≡ true → (a ≡ true) × (b ≡ true)
both_from true b h = (refl, h)
both_from false b h = absurd cc

-- ---- some element

pub any_as : {X : Type 0} (P Q : X → Type 0) (xs : List X) → ((x : X) → P x → Q x) → Any P xs → Any Q xs
any_as P Q xs each a = (a.0, a.1, a.2, a.3, each a.1 a.4)

pub one_if : (b : Bool) → b ≡ true → ◌≡◌ {A = ℕ} (cond b 1 0) 1
one_if b h = rw h refl

pub none_if : (b : Bool) → b ≡ false → ◌≡◌ {A = ℕ} (cond b 1 0) 0
none_if b h = rw h refl

counted_some : {X : Type 0} (p : X → Bool) (xs : List X) → list_any p xs ≡ true → 0 < count_by p xs
counted_some p [] h = absurd cc
counted_some p (x ∷ xs) h =
    let sum = sum_by-cons (λ (x : _). cond (p x) 1 0) x xs in
    elim (either_way (p x)) [
      | inl here ↦ let one = one_if (p x) here in omega (arith, sum, one)
      | inr apart ↦ let more = counted_some p xs (subst (λ (b : Bool). b || list_any p xs ≡ true) apart h) in omega (arith, sum, more)
    ]

pub some_counted : {X : Type 0} (p : X → Bool) (xs : List X) → 0 < count_by p xs → list_any p xs ≡ true
some_counted p [] h = absurd (omega (arith, h))
some_counted p (x ∷ xs) h =
    elim (either_way (p x)) [
      | inl here ↦ left_true (p x) (list_any p xs) here
      | inr apart ↦
          let sum = sum_by-cons (λ (x : _). cond (p x) 1 0) x xs in
          let none = none_if (p x) apart in
          right_true (p x) (list_any p xs) (some_counted p xs (omega (arith, sum, none, h)))
    ]

-- ---- names and quantities

pub below_true : (a b : ℕ) → a < b → nat_lt a b ≡ true
below_true a b h = grind (arith, nat_tests)

true_below : (a b : ℕ) → nat_lt a b ≡ true → a < b
true_below a b h = grind (arith, nat_tests)

zero_true : (q : ℕ) → pos q ≡ pos 0 → (q == 0) ≡ true
zero_true q h = let e : q ≡ 0 = cc in grind (arith, nat_tests)

true_zero : (q : ℕ) → (q == 0) ≡ true → pos q ≡ pos 0
true_zero q h = let e : q ≡ 0 = grind (arith, nat_tests) in ap pos e

module _ (assets : List (AssetQuantity ℕ)) where
  abbrev long : Bool
  long = list_any (λ a. is_long a.name) assets

  abbrev zero_there : Bool
  zero_there = list_any (λ a. a.quantity == 0) assets

  long_true : HasLongName assets → long ≡ true
  long_true h = list_any-from_Any (λ a. is_long a.name) assets (any_as (λ a. 32 < length a.name) (λ a. is_long a.name ≡ true) assets (λ a lt. below_true 32 (length a.name) lt) h)

  true_long : long ≡ true → HasLongName assets
  true_long h = any_as (λ a. is_long a.name ≡ true) (λ a. 32 < length a.name) assets (λ a lt. true_below 32 (length a.name) lt) (Any-from_list_any (λ a. is_long a.name) assets h)

  nothing_true : HasZero pos assets → zero_there ≡ true
  nothing_true h = list_any-from_Any (λ a. a.quantity == 0) assets (any_as (λ a. pos a.quantity ≡ pos 0) (λ a. (a.quantity == 0) ≡ true) assets (λ a e. zero_true a.quantity e) h)

  true_nothing : zero_there ≡ true → HasZero pos assets
  true_nothing h = any_as (λ a. (a.quantity == 0) ≡ true) (λ a. pos a.quantity ≡ pos 0) assets (λ a e. true_zero a.quantity e) (Any-from_list_any (λ a. a.quantity == 0) assets h)

-- ---- repeats

of_itself : (a : AssetQuantity ℕ) → is_of a.policy a.name a ≡ true
of_itself a = rw (bytes_self a.policy, bytes_self a.name) refl

twice_from : (assets : List (AssetQuantity ℕ)) → has_twice assets ≡ true → HasRepeats assets
twice_from [] h = absurd cc
twice_from (a ∷ others) h =
    elim (one_of (has_asset a.policy a.name others) (has_twice others) h) [
      | inl here ↦
          let more = counted_some (is_of a.policy a.name) others here in
          let sum = sum_by-cons (λ (x : AssetQuantity ℕ). cond (is_of a.policy a.name x) 1 0) a others in
          let one = one_if (is_of a.policy a.name a) (of_itself a) in
          (a.policy, a.name, omega (arith, sum, one, more))
      | inr there ↦
          let r = twice_from others there in
          let sum = sum_by-cons (λ (x : AssetQuantity ℕ). cond (is_of r.0 r.1 x) 1 0) a others in
          (r.0, r.1, omega (arith, sum, r.2))
    ]

twice_to : (policy name : List ℕ) (assets : List (AssetQuantity ℕ)) → 1 < count_by (is_of policy name) assets → has_twice assets ≡ true
twice_to policy name [] h = absurd (omega (arith, h))
twice_to policy name (a ∷ others) h =
    let sum = sum_by-cons (λ (x : AssetQuantity ℕ). cond (is_of policy name x) 1 0) a others in
    elim (either_way (is_of policy name a)) [
      | inl here ↦
          let both = both_from (bytes_eq policy a.policy) (bytes_eq name a.name) here in
          let one = one_if (is_of policy name a) here in
          let some : list_any (is_of policy name) others ≡ true = some_counted (is_of policy name) others (omega (arith, sum, one, h)) in
          let first : has_asset a.policy a.name others ≡ true =
          ap (λ (p : List ℕ). has_asset p a.name others) (sym (bytes_from policy a.policy both.0)) ∙ ap (λ (n : List ℕ). has_asset policy n others) (sym (bytes_from name a.name both.1)) ∙ some in
          left_true (has_asset a.policy a.name others) (has_twice others) first
      | inr apart ↦
          let none = none_if (is_of policy name a) apart in
          right_true (has_asset a.policy a.name others) (has_twice others) (twice_to policy name others (omega (arith, sum, none, h)))
    ]

-- ---- all three

false_if : (b : Bool) {P : Type 0} → (b ≡ true → P) → (P → ⊥) → b ≡ false
false_if b from none = false_from_ne_true b (λ h. none (from h))

-- a fault of assets is told as what it is
pub told_right : (assets : List (AssetQuantity ℕ)) (fault : AssetFault) → IsAssetFault pos assets fault → IsFaultRefusal (is_at_fault assets) (draft_fault_of fault)
told_right assets faults.NameTooLong h = left_true (long assets) (zero_there assets || has_twice assets) (long_true assets h)
told_right assets faults.ZeroQuantity h = right_true (long assets) (zero_there assets || has_twice assets) (left_true (zero_there assets) (has_twice assets) (nothing_true assets h.1))
told_right assets faults.Repeated h = right_true (long assets) (zero_there assets || has_twice assets) (right_true (zero_there assets) (has_twice assets) (twice_to h.2.0 h.2.1 assets h.2.2))
told_right assets faults.OutOfMemory h =
    both_false (long assets) (zero_there assets || has_twice assets) (false_if (long assets) (true_long assets) h.0)
    (both_false (zero_there assets) (has_twice assets) (false_if (zero_there assets) (true_nothing assets) h.1) (false_if (has_twice assets) (twice_from assets) h.2))

-- the assets of a value that has a text are not at fault
pub sound_if : (value : Value) (coin : ℕ) (assets : List (AssetQuantity ℕ)) → IsValue value → HasText (item_of_value value) → IsValueOf value coin assets → is_at_fault assets ≡ false
sound_if value coin assets is text of =
    let no_long : HasLongName assets → ⊥ = λ h. no_value coin assets faults.NameTooLong h value is text of in
    let no_zero : HasZero pos assets → ⊥ = λ h. no_value coin assets faults.ZeroQuantity (no_long, h) value is text of in
    let no_twice : HasRepeats assets → ⊥ = λ h. no_value coin assets faults.Repeated (no_long, no_zero, h) value is text of in
    both_false (long assets) (zero_there assets || has_twice assets) (false_if (long assets) (true_long assets) no_long)
    (both_false (zero_there assets) (has_twice assets) (false_if (zero_there assets) (true_nothing assets) no_zero) (false_if (has_twice assets) (twice_from assets) no_twice))
