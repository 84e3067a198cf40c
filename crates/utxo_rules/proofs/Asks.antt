-- How a loop asks each of a list for what it stands for, up to the first that fails.
use Rattle.std.proofs.Common.{◌≡◌, ℕ, ◌+◌, ◌<◌, ◌≤◌, Bool, true, false, List, length, drop, get_or, map, refl, Option, Some, None, is_some, option_map, Bor}
use Rattle.std.specs.Option.{option_copied}
use Rattle.std.specs.List.{list_all}
use Rattle.witness_pool.proofs.ForCallers.{goes_on, stops, ends}

module _ {A B : Type 0} (view : A → B) (test : B → Bool) where
  -- those that are left decide for all
  abbrev pub DecideForAll : List A → ℕ → Type 0
  DecideForAll xs i = list_all test (map view (drop i xs)) ≡ list_all test (map view xs)

  pub next_passes : (xs : List A) (i : ℕ) (x : A) → i < length xs → x ≡ get_or xs i x → test (view x) ≡ true → DecideForAll xs i → DecideForAll xs (i + 1)
  next_passes = goes_on (λ (ys : List A). list_all test (map view ys)) (λ (x : A). test (view x)) (λ x xs. refl)

  pub next_fails : (xs : List A) (i : ℕ) (x : A) → i < length xs → x ≡ get_or xs i x → test (view x) ≡ false → DecideForAll xs i → false ≡ list_all test (map view xs)
  next_fails = stops (λ (ys : List A). list_all test (map view ys)) (λ (x : A). test (view x)) (λ x xs. refl)

  pub all_pass : (xs : List A) (i : ℕ) → length xs ≤ i → DecideForAll xs i → true ≡ list_all test (map view xs)
  all_pass xs i = ends (λ (ys : List A). list_all test (map view ys)) (λ (x : A). test (view x)) (λ x xs. refl) xs i refl

-- what is seen of something that may be there is there where it is
pub seen_some : {X Y : Type 0} (f : X → Y) (r : Option (Bor X)) → is_some (option_map f (option_copied r)) ≡ is_some r
seen_some f None = refl
seen_some f (Some x) = refl
