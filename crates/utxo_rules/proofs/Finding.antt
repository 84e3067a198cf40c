-- How a loop looks for the first of a list that fails a test.
use Rattle.std.proofs.Common.{◌≡◌, ℕ, zero, suc, ◌+◌, ◌<◌, ◌≤◌, Bool, true, false, ◌&&◌, List, [], ◌∷◌, length, take, get_or, map, Option, Some, None, refl, sym, ap, ap₂, subst, ◌∙◌, arith}
use Rattle.std.specs.Prelude.{slice_get}
use Rattle.std.specs.List.{list_all}
use Rattle.std.proofs.lemmas.Bool.{and_parts}
use Rattle.model.specs.Transaction.{Output}
use Rattle.model.specs.Utxo.{place, pairs_from}
use Rattle.model.specs.Explaining.{IsFailingAt}
use Rattle.utxo_rules.specs.DetailView.{FindsFirst}

-- ---- over a list

module _ {B : Type 0} (test : B → Bool) where
  one_more : (ys : List B) (i : ℕ) (y : B) → slice_get ys i ≡ Some y → test y ≡ true → list_all test (take i ys) ≡ true → list_all test (take (suc i) ys) ≡ true
  one_more [] i y is good before = absurd cc
  one_more (z ∷ zs) zero y is good before =
      let same : z ≡ y = cc in
      rw (ap test same ∙ good) refl
  one_more (z ∷ zs) (suc i) y is good before =
      let parts = and_parts (test z) (list_all test (take i zs)) before in
      rw parts.0 (one_more zs i y is good parts.1)

  pub next_passes_at : (ys : List B) (i : ℕ) (y : B) → slice_get ys i ≡ Some y → test y ≡ true → list_all test (take i ys) ≡ true → list_all test (take (i + 1) ys) ≡ true
  next_passes_at ys i y is good before =
      let next : suc i ≡ i + 1 = omega arith in
      subst (λ (n : ℕ). list_all test (take n ys) ≡ true) next (one_more ys i y is good before)

  all_taken : (ys : List B) (i : ℕ) → length ys ≤ i → take i ys ≡ ys
  all_taken [] zero le = refl
  all_taken [] (suc i) le = refl
  all_taken (y ∷ ys) zero le = absurd (omega (arith, le))
  all_taken (y ∷ ys) (suc i) le = ap (λ (zs : List B). y ∷ zs) (all_taken ys i (omega (arith, le)))

  pub all_pass_before : (ys : List B) (i : ℕ) → length ys ≤ i → list_all test (take i ys) ≡ true → list_all test ys ≡ true
  all_pass_before ys i le before = ap (list_all test) (sym (all_taken ys i le)) ∙ before

-- ---- over a list as it is seen

module _ {A B : Type 0} (view : A → B) where
  -- the element at a place, as it is seen
  pub seen_at : (xs : List A) (i : ℕ) (x : A) → i < length xs → x ≡ get_or xs i x → slice_get (map view xs) i ≡ Some (view x)
  seen_at [] i x lt is = absurd (omega (arith, lt))
  seen_at (y ∷ ys) zero x lt is = ap (λ (z : A). Some (view z)) (sym is)
  seen_at (y ∷ ys) (suc i) x lt is = seen_at ys i x (omega (arith, lt)) is

  pub seen_length : (xs : List A) → length (map view xs) ≡ length xs
  seen_length [] = refl
  seen_length (x ∷ xs) = ap suc (seen_length xs)

  module _ (test : B → Bool) where
    -- those before this place pass
    abbrev pub PassBefore : List A → ℕ → Type 0
    PassBefore xs i = list_all test (take i (map view xs)) ≡ true

    pub pass_more : (xs : List A) (i : ℕ) (x : A) → i < length xs → x ≡ get_or xs i x → test (view x) ≡ true → PassBefore xs i → PassBefore xs (i + 1)
    pass_more xs i x lt is good before = next_passes_at test (map view xs) i (view x) (seen_at xs i x lt is) good before

    pub fails_here : (xs : List A) (i : ℕ) (x : A) → i < length xs → x ≡ get_or xs i x → test (view x) ≡ false → PassBefore xs i → IsFailingAt test (map view xs) i (view x)
    fails_here xs i x lt is bad before = record { there = seen_at xs i x lt is; fails = bad; first = before }

    pub all_pass_here : (xs : List A) (i : ℕ) → length xs ≤ i → PassBefore xs i → list_all test (map view xs) ≡ true
    all_pass_here xs i le before = all_pass_before test (map view xs) i (subst (λ (n : ℕ). n ≤ i) (sym (seen_length xs)) le) before

-- ---- over the places of outputs

pair_at : (id : List ℕ) (k : ℕ) (os : List Output) (i : ℕ) (o : Output) → slice_get os i ≡ Some o → slice_get (pairs_from id k os) i ≡ Some (place id (k + i), o)
pair_at id k [] i o is = absurd cc
pair_at id k (x ∷ xs) zero o is =
    let same : x ≡ o = cc in
    let here : k ≡ k + 0 = omega arith in
    ap (λ (y : Output). Some (place id k, y)) same ∙ ap (λ (n : ℕ). Some (place id n, o)) here
pair_at id k (x ∷ xs) (suc i) o is =
    let here : suc k + i ≡ k + suc i = omega arith in
    pair_at id (suc k) xs i o is ∙ ap (λ (n : ℕ). Some (place id n, o)) here

pub new_pair_at : (id : List ℕ) (os : List Output) (i : ℕ) (o : Output) → slice_get os i ≡ Some o → slice_get (pairs_from id 0 os) i ≡ Some (place id i, o)
new_pair_at id os i o is =
    let here : 0 + i ≡ i = omega arith in
    pair_at id 0 os i o is ∙ ap (λ (n : ℕ). Some (place id n, o)) here

pub pairs_count_as : (id : List ℕ) (k : ℕ) (os : List Output) → length (pairs_from id k os) ≡ length os
pairs_count_as id k [] = refl
pairs_count_as id k (o ∷ os) = ap suc (pairs_count_as id (suc k) os)

-- ---- tests that agree

module _ {X : Type 0} (test other : X → Bool) (same : (x : X) → test x ≡ other x) where
  all_same : (xs : List X) → list_all test xs ≡ list_all other xs
  all_same [] = refl
  all_same (x ∷ xs) = ap₂ (λ (a b : Bool). a && b) (same x) (all_same xs)

  failing_same : (xs : List X) (i : ℕ) (x : X) → IsFailingAt test xs i x → IsFailingAt other xs i x
  failing_same xs i x at = record { there = at.there; fails = sym (same x) ∙ at.fails; first = sym (all_same (take i xs)) ∙ at.first }

  pub finds_same : (xs : List X) (r : Option X) → FindsFirst test xs r → FindsFirst other xs r
  finds_same xs None all = sym (all_same xs) ∙ all
  finds_same xs (Some x) first = (first.0, failing_same xs first.0 x first.1)

-- what stands at a place of a list stands there whatever is told in its stead
pub get_or_same : {X : Type 0} (xs : List X) (i : ℕ) (d : X) → i < length xs → get_or xs i d ≡ get_or xs i (get_or xs i d)
get_or_same [] i d lt = absurd (omega (arith, lt))
get_or_same (x ∷ xs) zero d lt = refl
get_or_same (x ∷ xs) (suc i) d lt = at_next xs i (get_or xs i d) d (omega (arith, lt))
  where
    at_next : {X : Type 0} (xs : List X) (i : ℕ) (e d : X) → i < length xs → get_or xs i d ≡ get_or xs i e
    at_next [] i e d lt = absurd (omega (arith, lt))
    at_next (x ∷ xs) zero e d lt = refl
    at_next (x ∷ xs) (suc i) e d lt = at_next xs i e d (omega (arith, lt))
