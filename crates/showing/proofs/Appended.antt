-- Texts that are appended one behind the other: by two calls, of which the last one's answer is handed on, and by a loop,
-- one for each of a list.
use Rattle.std.proofs.Common.{◌≡◌, ℕ, ◌+◌, ◌<◌, List, ◌∷◌, ◌++◌, length, get_or, drop, Result, Ok, Err, OnOk, sym, ap, ◌∙◌, append_assoc}
use Rattle.std.proofs.lemmas.List.{drop_more}

module _ {T E : Type 0} where
  pub two_on : (r : Result T E) (l0 l1 l2 a b : List ℕ) → l1 ≡ l0 ++ a → OnOk r (l2 ≡ l1 ++ b) → OnOk r (l2 ≡ l0 ++ (a ++ b))
  two_on (Err e) l0 l1 l2 a b p q = tt
  two_on (Ok x) l0 l1 l2 a b p q = q ∙ ap (λ (l : List ℕ). l ++ b) p ∙ append_assoc l0 a b

module _ {A : Type 0} (whole : List A → List ℕ) (one : A → List ℕ) (law : (x : A) (xs : List A) → whole (x ∷ xs) ≡ one x ++ whole xs) where
  -- one more text, where what was appended and the texts of the rest are this
  pub one_put : (all : List A) (start now more : List ℕ) (i : ℕ) (x : A) → i < length all → x ≡ get_or all i x → more ≡ now ++ one x → now ++ whole (drop i all) ≡ start → more ++ whole (drop (i + 1) all) ≡ start
  one_put all start now more i x lt is put part =
      let rest = whole (drop (i + 1) all) in
      let here : drop i all ≡ x ∷ drop (i + 1) all = drop_more all i x lt ∙ ap (λ (y : A). y ∷ drop (i + 1) all) (sym is) in
      let texts : whole (drop i all) ≡ one x ++ rest = ap whole here ∙ law x (drop (i + 1) all) in
      ap (λ (bs : List ℕ). bs ++ rest) put ∙ append_assoc now (one x) rest ∙ ap (λ (bs : List ℕ). now ++ bs) (sym texts) ∙ part
