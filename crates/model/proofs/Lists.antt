-- Facts about lists: membership under a cons and a filter, facts of each element, beginnings.
use Rattle.std.proofs.Common.{◌≡◌, ℕ, zero, suc, ◌<◌, Bool, true, false, cond, List, [], ◌∷◌, ◌++◌, length, get_or, take, drop, Contains, refl, ap, ◌∙◌, arith, inl, inr, ◌⊎◌}
use Rattle.std.specs.List.{AllByRecursion, filter}
use Rattle.std.proofs.lemmas.List.Elements.{All-from_recursion, All-contains}

-- what holds of each element holds of a member
pub all_of_member : {X : Type 0} (P : X → Type 0) (xs : List X) (x : X) → AllByRecursion P xs → Contains xs x → P x
all_of_member P xs x all member = All-contains P xs x (All-from_recursion P xs all) member

-- what holds of the members holds of each element
pub all_from_members : {X : Type 0} (P : X → Type 0) (xs : List X) → ((x : X) → Contains xs x → P x) → AllByRecursion P xs
all_from_members P [] each = tt
all_from_members P (x ∷ xs) each = (each x (0, omega arith, refl), all_from_members P xs (λ y member. each y (suc member.0, omega (arith, member.1), member.2)))

pub all_weaker : {X : Type 0} (P Q : X → Type 0) (xs : List X) → ((x : X) → P x → Q x) → AllByRecursion P xs → AllByRecursion Q xs
all_weaker P Q [] weaker all = tt
all_weaker P Q (x ∷ xs) weaker all = (weaker x all.0, all_weaker P Q xs weaker all.1)

pub all_both : {X : Type 0} (P Q : X → Type 0) (xs : List X) → AllByRecursion P xs → AllByRecursion Q xs → AllByRecursion (λ x. P x × Q x) xs
all_both P Q [] p q = tt
all_both P Q (x ∷ xs) p q = ((p.0, q.0), all_both P Q xs p.1 q.1)

pub all_take : {X : Type 0} (P : X → Type 0) (n : ℕ) (xs : List X) → AllByRecursion P xs → AllByRecursion P (take n xs)
all_take P zero xs all = tt
all_take P (suc n) [] all = tt
all_take P (suc n) (x ∷ xs) all = (all.0, all_take P n xs all.1)

pub all_append : {X : Type 0} (P : X → Type 0) (xs ys : List X) → AllByRecursion P xs → AllByRecursion P ys → AllByRecursion P (xs ++ ys)
all_append P [] ys first second = second
all_append P (x ∷ xs) ys first second = (first.0, all_append P xs ys first.1 second)

pub all_push : {X : Type 0} (P : X → Type 0) (xs : List X) (x : X) → AllByRecursion P xs → P x → AllByRecursion P (xs ++ x ∷ [])
all_push P [] y all one = (one, tt)
all_push P (x ∷ xs) y all one = (all.0, all_push P xs y all.1 one)

pub all_drop : {X : Type 0} (P : X → Type 0) (n : ℕ) (xs : List X) → AllByRecursion P xs → AllByRecursion P (drop n xs)
all_drop P zero xs all = all
all_drop P (suc n) [] all = tt
all_drop P (suc n) (x ∷ xs) all = all_drop P n xs all.1

pub nothing_contained : {X : Type 0} (x : X) → Contains [] x → ⊥
nothing_contained x member = omega (arith, member.1)

pub contains_first : {X : Type 0} (x : X) (xs : List X) → Contains (x ∷ xs) x
contains_first x xs = (0, omega arith, refl)

pub contains_later : {X : Type 0} (x : X) (xs : List X) (y : X) → Contains xs y → Contains (x ∷ xs) y
contains_later x xs y member = (suc member.0, omega (arith, member.1), member.2)

contained_at : {X : Type 0} (x : X) (xs : List X) (y : X) (k : ℕ) → k < suc (length xs) → get_or (x ∷ xs) k y ≡ y → (x ≡ y) ⊎ Contains xs y
contained_at x xs y zero below is = inl is
contained_at x xs y (suc k) below is = inr (k, omega arith, is)

pub contains_cases : {X : Type 0} (x : X) (xs : List X) (y : X) → Contains (x ∷ xs) y → (x ≡ y) ⊎ Contains xs y
contains_cases x xs y member = contained_at x xs y member.0 member.1 member.2

filtered : {X : Type 0} (b : Bool) (x y : X) (xs : List X) → (x ≡ y) ⊎ Contains xs y → (x ≡ y → b ≡ true) → Contains (cond b (x ∷ xs) xs) y
filtered true x y xs (inl is) passes = (0, omega arith, is)
filtered true x y xs (inr member) passes = contains_later x xs y member
filtered false x y xs (inl is) passes = absurd (let e : false ≡ true = passes is in cc)
filtered false x y xs (inr member) passes = member

-- a member that passes the test is a member of what passes
pub contains_filter : {X : Type 0} (p : X → Bool) (xs : List X) (y : X) → Contains xs y → p y ≡ true → Contains (filter p xs) y
contains_filter p [] y member passes = absurd (nothing_contained y member)
contains_filter p (x ∷ xs) y member passes =
    filtered (p x) x y (filter p xs) (elim (contains_cases x xs y member) [ inl is ↦ inl is | inr later ↦ inr (contains_filter p xs y later passes) ]) (λ is. ap p is ∙ passes)

-- what holds of each element that passes a test holds of each that passes a narrower one
pub all_filter_narrower : {X : Type 0} (P : X → Type 0) (p q : X → Bool) (xs : List X) → ((x : X) → q x ≡ true → p x ≡ true) → AllByRecursion P (filter p xs) → AllByRecursion P (filter q xs)
all_filter_narrower P p q [] narrower all = tt
all_filter_narrower P p q (x ∷ xs) narrower all = one (p x) (q x) (narrower x) all (all_filter_narrower P p q xs narrower)
  where
    one : (b c : Bool) → (c ≡ true → b ≡ true) → AllByRecursion P (cond b (x ∷ filter p xs) (filter p xs)) → (AllByRecursion P (filter p xs) → AllByRecursion P (filter q xs)) → AllByRecursion P (cond c (x ∷ filter q xs) (filter q xs))
    one true true n a more = (a.0, more a.1)
    one true false n a more = more a.1
    one false false n a more = more a
    one false true n a more = absurd (let e : false ≡ true = n refl in cc)
