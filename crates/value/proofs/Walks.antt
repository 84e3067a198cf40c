-- A walk over a list that stops at the first that is bad, and otherwise finds all good.
use Rattle.std.proofs.Common.{◌≡◌, ℕ, suc, ◌+◌, ◌<◌, List, ◌∷◌, map, length, get_or, drop, refl, arith}
use Rattle.std.specs.List.{AllByRecursion, Any}
use Rattle.std.specs.List.Sorted.{IsPermutation}
use Rattle.std.proofs.lemmas.List.Elements.{All-from_recursion, All-contains}
use Rattle.std.proofs.lemmas.List.Sorted.{Contains-permutation}
use Rattle.value.proofs.Lists.{rest_here}

module _ {Y : Type 0} where
  pub any_here : (P : Y → Type 0) (y : Y) (ys : List Y) → P y → Any P (y ∷ ys)
  any_here P y ys p = (0, y, omega arith, refl, p)

  pub any_there : (P : Y → Type 0) (y : Y) (ys : List Y) → Any P ys → Any P (y ∷ ys)
  any_there P y ys a = (suc a.0, a.1, omega (arith, a.2), a.3, a.4)

  -- where all are good none is bad
  pub none_bad : (Good Bad : Y → Type 0) (ys : List Y) → ((y : Y) → Good y → Bad y → ⊥) → AllByRecursion Good ys → Any Bad ys → ⊥
  none_bad Good Bad ys apart good bad = apart bad.1 (All-contains Good ys bad.1 (All-from_recursion Good ys good) (bad.0, bad.2, bad.3)) bad.4

  -- some is bad, in whatever order they stand
  pub any_moved : (P : Y → Type 0) (xs ys : List Y) → IsPermutation xs ys → Any P xs → Any P ys
  any_moved P xs ys moved a =
      let found = Contains-permutation xs ys a.1 moved (a.0, a.2, a.3) in
      (found.0, a.1, found.1, found.2, a.4)

-- what is left decides for all
pub record IsWalked {X Y : Type 0} (f : X → Y) (Good Bad : Y → Type 0) (xs : List X) (left : List Y) : Type 0 where
  pub good : AllByRecursion Good left → AllByRecursion Good (map f xs)
  pub bad : Any Bad left → Any Bad (map f xs)

module _ {X Y : Type 0} (f : X → Y) (Good Bad : Y → Type 0) where
  -- at the next one, which is x
  pub walk_here : (xs : List X) (i : ℕ) (x : X) → i < length xs → x ≡ get_or xs i x → IsWalked f Good Bad xs (map f (drop i xs)) → IsWalked f Good Bad xs (f x ∷ map f (drop (i + 1) xs))
  walk_here xs i x lt is walk = rest_here f (IsWalked f Good Bad xs) xs i x lt is walk

  pub walk_goes_on : (xs : List X) (i : ℕ) (x : X) → i < length xs → x ≡ get_or xs i x → Good (f x) → IsWalked f Good Bad xs (map f (drop i xs)) → IsWalked f Good Bad xs (map f (drop (i + 1) xs))
  walk_goes_on xs i x lt is here walk =
      let w = walk_here xs i x lt is walk in
      record { good = λ h. w.good (here, h); bad = λ h. w.bad (any_there Bad (f x) (map f (drop (i + 1) xs)) h) }

  pub walk_stops : (xs : List X) (i : ℕ) (x : X) → i < length xs → x ≡ get_or xs i x → Bad (f x) → IsWalked f Good Bad xs (map f (drop i xs)) → Any Bad (map f xs)
  walk_stops xs i x lt is here walk = (walk_here xs i x lt is walk).bad (any_here Bad (f x) (map f (drop (i + 1) xs)) here)
