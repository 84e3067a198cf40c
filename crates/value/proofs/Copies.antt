-- Copying one after the other, as a loop does.
use Rattle.std.proofs.Common.{◌≡◌, ℕ, ◌+◌, ◌<◌, ◌≤◌, List, [], ◌∷◌, ◌++◌, length, drop, get_or, map, sym, ap, ◌∙◌, append-nil, append_assoc}
use Rattle.std.proofs.lemmas.List.{map-append, drop_all}
use Rattle.cbor.proofs.ForCallers.{drop_here}

module _ {A E : Type 0} (told : A → E) where
  -- these copies and the rest of what is copied are the whole
  abbrev pub IsPartCopied : List A → List A → ℕ → Type 0
  IsPartCopied copies all i = map told copies ++ map told (drop i all) ≡ map told all

  -- one more
  pub one_copied : (copies new all : List A) (i : ℕ) (x copy : A) → i < length all → x ≡ get_or all i x → told copy ≡ told x → new ≡ copies ++ copy ∷ [] → IsPartCopied copies all i → IsPartCopied new all (i + 1)
  one_copied copies new all i x copy lt is same pushed part =
      let rest = map told (drop (i + 1) all) in
      ap (λ (cs : List A). map told cs ++ rest) pushed ∙ ap (λ (es : List E). es ++ rest) (map-append told copies (copy ∷ [])) ∙ append_assoc (map told copies) (told copy ∷ []) rest
      ∙ ap (λ (e : E). map told copies ++ (e ∷ rest)) same ∙ ap (λ (es : List E). map told copies ++ es) (sym (ap (map told) (drop_here all i x lt is))) ∙ part

  -- all of them
  pub all_copied : (copies all : List A) (i : ℕ) → length all ≤ i → IsPartCopied copies all i → map told copies ≡ map told all
  all_copied copies all i le part = sym (append-nil (map told copies)) ∙ ap (λ (xs : List A). map told copies ++ map told xs) (sym (drop_all i all le)) ∙ part
