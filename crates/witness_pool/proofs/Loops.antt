-- How a loop asks each of a list, or makes something of each, one after the other.
use Rattle.std.proofs.Common.{◌≡◌, ℕ, ◌+◌, ◌<◌, ◌≤◌, Bool, true, false, ◌&&◌, List, [], ◌∷◌, ◌++◌, length, drop, get_or, map, refl, sym, ap, ◌∙◌, append-nil, append_assoc}
use Rattle.std.proofs.lemmas.List.{map-append, drop_all}
use Rattle.cbor.proofs.ForCallers.{drop_here}

module _ {A : Type 0} (all : List A → Bool) (one : A → Bool) (law : (x : A) (xs : List A) → all (x ∷ xs) ≡ (one x && all xs)) where
  -- what is left to ask decides for all
  abbrev pub IsLeft : List A → ℕ → Type 0
  IsLeft xs i = all (drop i xs) ≡ all xs

  from_here : (xs : List A) (i : ℕ) (x : A) → i < length xs → x ≡ get_or xs i x → all (drop i xs) ≡ (one x && all (drop (i + 1) xs))
  from_here xs i x lt is = ap all (drop_here xs i x lt is) ∙ law x (drop (i + 1) xs)

  pub goes_on : (xs : List A) (i : ℕ) (x : A) → i < length xs → x ≡ get_or xs i x → one x ≡ true → IsLeft xs i → IsLeft xs (i + 1)
  goes_on xs i x lt is good left = sym (from_here xs i x lt is ∙ rw good refl) ∙ left

  pub stops : (xs : List A) (i : ℕ) (x : A) → i < length xs → x ≡ get_or xs i x → one x ≡ false → IsLeft xs i → false ≡ all xs
  stops xs i x lt is bad left = sym (from_here xs i x lt is ∙ rw bad refl) ∙ left

  pub ends : (xs : List A) (i : ℕ) → all [] ≡ true → length xs ≤ i → IsLeft xs i → true ≡ all xs
  ends xs i nil le left = sym nil ∙ ap all (sym (drop_all i xs le)) ∙ left

module _ {A B W E : Type 0} (made : B → E) (told : A → W) (of : W → E) where
  -- what was made and what is still to be made are the whole
  abbrev pub IsPartMade : List B → List A → ℕ → Type 0
  IsPartMade done all i = map made done ++ map of (map told (drop i all)) ≡ map of (map told all)

  pub none_made : (done : List B) (all : List A) → done ≡ [] → IsPartMade done all 0
  none_made done all nothing = ap (λ (ys : List B). map made ys ++ map of (map told all)) nothing

  pub one_made : (done new : List B) (all : List A) (i : ℕ) (x : A) (y : B) → i < length all → x ≡ get_or all i x → made y ≡ of (told x) → new ≡ done ++ y ∷ [] → IsPartMade done all i → IsPartMade new all (i + 1)
  one_made done new all i x y lt is same pushed part =
      let rest = map of (map told (drop (i + 1) all)) in
      ap (λ (ys : List B). map made ys ++ rest) pushed ∙ ap (λ (es : List E). es ++ rest) (map-append made done (y ∷ [])) ∙ append_assoc (map made done) (made y ∷ []) rest
      ∙ ap (λ (e : E). map made done ++ (e ∷ rest)) same ∙ ap (λ (es : List E). map made done ++ es) (sym (ap (λ (xs : List A). map of (map told xs)) (drop_here all i x lt is))) ∙ part

  pub all_made : (done : List B) (all : List A) (i : ℕ) → length all ≤ i → IsPartMade done all i → map made done ≡ map of (map told all)
  all_made done all i le part = sym (append-nil (map made done)) ∙ ap (λ (xs : List A). map made done ++ map of (map told xs)) (sym (drop_all i all le)) ∙ part
