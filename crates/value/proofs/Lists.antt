-- Lists from a place on, and what holds of each member.
use Rattle.std.proofs.Common.{◌≡◌, ℕ, ◌+◌, ◌<◌, ◌≤◌, List, [], ◌∷◌, map, length, get_or, drop, subst}
use Rattle.std.specs.List.{AllByRecursion}
use Rattle.std.proofs.lemmas.List.{drop_all}
use Rattle.cbor.proofs.ForCallers.{drop_here}

-- what a place of a list and the places after it stand for
pub rest_here : {A B : Type 0} (f : A → B) (P : List B → Type 0) (xs : List A) (i : ℕ) (x : A) → i < length xs → x ≡ get_or xs i x → P (map f (drop i xs)) → P (f x ∷ map f (drop (i + 1) xs))
rest_here {A} f P xs i x h is p = subst (λ (rest : List A). P (map f rest)) (drop_here xs i x h is) p

-- nothing is left at the end
pub rest_none : {A B : Type 0} (f : A → B) (P : List B → Type 0) (xs : List A) (i : ℕ) → length xs ≤ i → P (map f (drop i xs)) → P []
rest_none {A} f P xs i h p = subst (λ (rest : List A). P (map f rest)) (drop_all i xs h) p

-- each member passes another test
pub all_map : {X : Type 0} (P R : X → Type 0) (xs : List X) → ((x : X) → P x → R x) → AllByRecursion P xs → AllByRecursion R xs
all_map P R [] h all = all
all_map P R (x ∷ xs) h all = (h x all.0, all_map P R xs h all.1)

-- the same by two tests
pub all_both : {X : Type 0} (P R S : X → Type 0) (xs : List X) → ((x : X) → P x → R x → S x) → AllByRecursion P xs → AllByRecursion R xs → AllByRecursion S xs
all_both P R S [] h all also = all
all_both P R S (x ∷ xs) h all also = (h x all.0 also.0, all_both P R S xs h all.1 also.1)

-- what holds of everything
pub all_any : {X : Type 0} (P : X → Type 0) (xs : List X) → ((x : X) → P x) → AllByRecursion P xs
all_any P [] h = tt
all_any P (x ∷ xs) h = (h x, all_any P xs h)
