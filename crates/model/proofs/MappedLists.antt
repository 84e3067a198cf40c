-- Members of lists that were mapped or filtered.
use Rattle.std.proofs.Common.{◌≡◌, Bool, true, false, cond, List, [], ◌∷◌, map, Contains, refl, sym, ap, subst, ◌∙◌, inl, inr}
use Rattle.std.specs.List.{filter}
use Rattle.model.proofs.Lists.{contains_first, contains_later, contains_cases, nothing_contained}

-- a member is mapped to a member
pub contains_map : {X Y : Type 0} (f : X → Y) (xs : List X) (x : X) → Contains xs x → Contains (map f xs) (f x)
contains_map f [] x member = absurd (nothing_contained x member)
contains_map f (y ∷ ys) x member =
    elim (contains_cases y ys x member) [
      | inl is ↦ subst (Contains (map f (y ∷ ys))) (ap f is) (contains_first (f y) (map f ys))
      | inr later ↦ contains_later (f y) (map f ys) (f x) (contains_map f ys x later)
    ]

-- a member of what was mapped comes from a member
pub contains_before : {X Y : Type 0} (f : X → Y) (xs : List X) (y : Y) → Contains (map f xs) y → (x : X) × Contains xs x × (f x ≡ y)
contains_before f [] y member = absurd (nothing_contained y member)
contains_before f (x ∷ xs) y member =
    elim (contains_cases (f x) (map f xs) y member) [
      | inl is ↦ (x, contains_first x xs, is)
      | inr later ↦ let found = contains_before f xs y later in (found.0, contains_later x xs found.0 found.1, found.2)
    ]

-- what is left by a test was there, and passes
pub filter_member : {X : Type 0} (p : X → Bool) (xs : List X) (x : X) → Contains (filter p xs) x → Contains xs x × (p x ≡ true)
filter_member p [] x member = absurd (nothing_contained x member)
filter_member p (y ∷ ys) x member = one (p y) refl member (filter_member p ys x)
  where
    one : (t : Bool) → p y ≡ t → Contains (cond t (y ∷ filter p ys) (filter p ys)) x → (Contains (filter p ys) x → Contains ys x × (p x ≡ true)) → Contains (y ∷ ys) x × (p x ≡ true)
    one true passes here more =
        elim (contains_cases y (filter p ys) x here) [
          | inl is ↦ (subst (Contains (y ∷ ys)) is (contains_first y ys), ap p (sym is) ∙ passes)
          | inr later ↦ (contains_later y ys x (more later).0, (more later).1)
        ]
    one false passes here more = (contains_later y ys x (more here).0, (more here).1)
