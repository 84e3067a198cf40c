-- Texts of what stands in a list, one after the other, as a loop writes them.
use Rattle.std.proofs.Common.{◌≡◌, ℕ, ◌+◌, ◌<◌, ◌≤◌, List, [], ◌∷◌, ◌++◌, length, take, get_or, map, sym, ap, ◌∙◌, append-nil, append_assoc}
use Rattle.std.specs.Prelude.{flat_map}
use Rattle.std.proofs.lemmas.List.{take_more, take_all}

module _ {A E : Type 0} (told : A → E) (text : E → List ℕ) where
  -- what is written of the first `i`
  abbrev pub texts_to : List A → ℕ → List ℕ
  texts_to all i = flat_map text (map told (take i all))

  map_taken : (xs : List A) (x : A) → flat_map text (map told (xs ++ x ∷ [])) ≡ flat_map text (map told xs) ++ text (told x)
  map_taken [] x = append-nil (text (told x))
  map_taken (y ∷ ys) x = ap (λ l. text (told y) ++ l) (map_taken ys x) ∙ sym (append_assoc (text (told y)) (flat_map text (map told ys)) (text (told x)))

  -- one more
  pub one_more_text : (all : List A) (i : ℕ) (x : A) → i < length all → x ≡ get_or all i x → texts_to all i ++ text (told x) ≡ texts_to all (i + 1)
  one_more_text all i x lt is =
      sym (map_taken (take i all) x)
      ∙ ap (λ (y : A). flat_map text (map told (take i all ++ y ∷ []))) is
      ∙ ap (λ (ys : List A). flat_map text (map told ys)) (sym (take_more all i x lt))

  -- all of them
  pub all_texts : (all : List A) (i : ℕ) → length all ≤ i → texts_to all i ≡ flat_map text (map told all)
  all_texts all i le = ap (λ (ys : List A). flat_map text (map told ys)) (take_all i all le)
