-- The sum of coins, one after the other.
use Rattle.std.proofs.Common.{◌≡◌, ℕ, ◌+◌, ◌<◌, ◌≤◌, List, ◌∷◌, length, get_or, drop, map, arith, refl, sym, ap, ◌∙◌, Some, None, nat_lt}
use Rattle.std.proofs.lemmas.List.{drop_all, drop_more}
use Rattle.std.specs.Prelude.{sum_by}
use Rattle.std.proofs.lemmas.List.Sums.{sum_by-cons}
use Rattle.std.specs.Prelude.{if◌then◌else◌}
use Rattle.std.proofs.lemmas.Bool.Decides.{nat_tests}

module _ {S A : Type 0} (view : S → A) (f : A → ℕ) where
  -- what was added and what is still to add are the sum
  abbrev pub IsPartAdded : ℕ → List S → ℕ → Type 0
  IsPartAdded sum all i = sum + sum_by f (map view (drop i all)) ≡ sum_by f (map view all)

  -- one more
  pub one_added : (sum : ℕ) (all : List S) (i : ℕ) (d x : S) → i < length all → x ≡ get_or all i d → IsPartAdded sum all i → IsPartAdded (sum + f (view x)) all (i + 1)
  one_added sum all i d x below is part =
      let split : drop i all ≡ x ∷ drop (i + 1) all = drop_more all i d below ∙ ap (λ (z : S). z ∷ drop (i + 1) all) (sym is) in
      let next : sum_by f (map view (drop i all)) ≡ f (view x) + sum_by f (map view (drop (i + 1) all)) = rw split (sum_by-cons f (view x) (map view (drop (i + 1) all))) in
      omega (arith, part, next)

  -- all of them
  pub all_added : (sum : ℕ) (all : List S) (i : ℕ) → length all ≤ i → IsPartAdded sum all i → sum ≡ sum_by f (map view all)
  all_added sum all i past part =
      let next : sum_by f (map view (drop i all)) ≡ 0 = rw (drop_all i all past) refl in
      omega (arith, part, next)

-- a number below a limit, and one that is not
pub below_limit : (limit n : ℕ) → n < limit → (if nat_lt n limit then Some n else None) ≡ Some n
below_limit limit n below = grind (arith, nat_tests)

pub past_limit : (limit n : ℕ) → limit ≤ n → (if nat_lt n limit then Some n else None) ≡ None
past_limit limit n past = grind (arith, nat_tests)
