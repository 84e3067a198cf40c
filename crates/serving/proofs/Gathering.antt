-- How a loop gathers what each of a list stands for: what is gathered and what is still to come are the whole.
use Rattle.std.proofs.Common.{◌≡◌, ℕ, ◌+◌, ◌<◌, ◌≤◌, List, [], ◌∷◌, ◌++◌, length, drop, get_or, map, sym, ap, refl, ◌∙◌, append-nil, append_assoc}
use Rattle.std.proofs.lemmas.List.{drop_all, map-append}
use Rattle.cbor.proofs.ForCallers.{drop_here}

module _ {A B C : Type 0} (view : A → C) (stands_for : B → C) where
  abbrev pub IsGathered : List B → List A → ℕ → Type 0
  IsGathered done xs i = map stands_for done ++ map view (drop i xs) ≡ map view xs

  pub none_gathered : (done : List B) (xs : List A) → done ≡ [] → IsGathered done xs 0
  none_gathered done xs none = ap (λ (ys : List B). map stands_for ys ++ map view xs) none

  pub one_gathered : (done new : List B) (xs : List A) (i : ℕ) (x : A) (y : B) → i < length xs → x ≡ get_or xs i x → stands_for y ≡ view x → new ≡ done ++ y ∷ [] → IsGathered done xs i → IsGathered new xs (i + 1)
  one_gathered done new xs i x y lt is same pushed part =
      let rest = map view (drop (i + 1) xs) in
      ap (λ (ys : List B). map stands_for ys ++ rest) pushed ∙ ap (λ (cs : List C). cs ++ rest) (map-append stands_for done (y ∷ []))
      ∙ append_assoc (map stands_for done) (stands_for y ∷ []) rest ∙ ap (λ (c : C). map stands_for done ++ (c ∷ rest)) same
      ∙ ap (λ (ys : List A). map stands_for done ++ map view ys) (sym (drop_here xs i x lt is)) ∙ part

  pub all_gathered : (done : List B) (xs : List A) (i : ℕ) → length xs ≤ i → IsGathered done xs i → map stands_for done ≡ map view xs
  all_gathered done xs i le part = sym (append-nil (map stands_for done)) ∙ ap (λ (ys : List A). map stands_for done ++ map view ys) (sym (drop_all i xs le)) ∙ part

pub map_twice : {A B C : Type 0} (f : A → B) (g : B → C) (xs : List A) → map g (map f xs) ≡ map (λ x. g (f x)) xs
map_twice f g [] = refl
map_twice f g (x ∷ xs) = ap (λ (cs : List _). g (f x) ∷ cs) (map_twice f g xs)

pub map_self : {A : Type 0} (xs : List A) → map (λ x. x) xs ≡ xs
map_self [] = refl
map_self (x ∷ xs) = ap (λ (ys : List _). x ∷ ys) (map_self xs)
