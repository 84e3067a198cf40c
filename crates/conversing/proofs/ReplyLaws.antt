-- Pieces that were put one behind the other.
use Rattle.std.proofs.Common.{◌≡◌, ℕ, List, ◌++◌, Result, Ok, Err, is_ok, cond, OnOk, ap, ◌∙◌, append_assoc}

module _ {T E : Type 0} where
  pub one : (r : Result T E) (l0 l1 a : List ℕ) → l1 ≡ cond (is_ok r) (l0 ++ a) l0 → OnOk r (l1 ≡ l0 ++ a)
  one (Err e) l0 l1 a p = tt
  one (Ok x) l0 l1 a p = p

  pub two : (r : Result T E) (l0 l1 l2 a b : List ℕ) → l1 ≡ l0 ++ a → l2 ≡ cond (is_ok r) (l1 ++ b) l1 → OnOk r (l2 ≡ l0 ++ (a ++ b))
  two (Err e) l0 l1 l2 a b p q = tt
  two (Ok x) l0 l1 l2 a b p q = q ∙ ap (λ (l : List ℕ). l ++ b) p ∙ append_assoc l0 a b

  -- the last part by another call
  pub two_on : (r : Result T E) (l0 l1 l2 a b : List ℕ) → l1 ≡ l0 ++ a → OnOk r (l2 ≡ l1 ++ b) → OnOk r (l2 ≡ l0 ++ (a ++ b))
  two_on (Err e) l0 l1 l2 a b p q = tt
  two_on (Ok x) l0 l1 l2 a b p q = q ∙ ap (λ (l : List ℕ). l ++ b) p ∙ append_assoc l0 a b

  pub four_on : (r : Result T E) (l0 l1 l2 l3 l4 a b c d : List ℕ) → l1 ≡ l0 ++ a → l2 ≡ l1 ++ b → l3 ≡ l2 ++ c → OnOk r (l4 ≡ l3 ++ d) → OnOk r (l4 ≡ l0 ++ (a ++ b ++ c ++ d))
  four_on (Err e) l0 l1 l2 l3 l4 a b c d p q s t = tt
  four_on (Ok x) l0 l1 l2 l3 l4 a b c d p q s t =
      t ∙ ap (λ (l : List ℕ). l ++ d) (s ∙ ap (λ (l : List ℕ). l ++ c) (q ∙ ap (λ (l : List ℕ). l ++ b) p)) ∙ simp append_assoc

  pub three : (r : Result T E) (l0 l1 l2 l3 a b c : List ℕ) → l1 ≡ l0 ++ a → l2 ≡ l1 ++ b → l3 ≡ cond (is_ok r) (l2 ++ c) l2 → OnOk r (l3 ≡ l0 ++ (a ++ b ++ c))
  three (Err e) l0 l1 l2 l3 a b c p q s = tt
  three (Ok x) l0 l1 l2 l3 a b c p q s =
      s ∙ ap (λ (l : List ℕ). l ++ c) (q ∙ ap (λ (l : List ℕ). l ++ b) p) ∙ simp append_assoc

  pub seven : (r : Result T E) (l0 l1 l2 l3 l4 l5 l6 l7 a b c d e f g : List ℕ) → l1 ≡ l0 ++ a → l2 ≡ l1 ++ b → l3 ≡ l2 ++ c → l4 ≡ l3 ++ d → l5 ≡ l4 ++ e → l6 ≡ l5 ++ f
      → l7 ≡ cond (is_ok r) (l6 ++ g) l6 → OnOk r (l7 ≡ l0 ++ (a ++ b ++ c ++ d ++ e ++ f ++ g))
  seven (Err x) l0 l1 l2 l3 l4 l5 l6 l7 a b c d e f g p1 p2 p3 p4 p5 p6 p7 = tt
  seven (Ok x) l0 l1 l2 l3 l4 l5 l6 l7 a b c d e f g p1 p2 p3 p4 p5 p6 p7 =
      p7 ∙ ap (λ (l : List ℕ). l ++ g) (p6 ∙ ap (λ (l : List ℕ). l ++ f) (p5 ∙ ap (λ (l : List ℕ). l ++ e) (p4 ∙ ap (λ (l : List ℕ). l ++ d) (p3 ∙ ap (λ (l : List ℕ). l ++ c) (p2 ∙ ap (λ (l : List ℕ). l ++ b) p1)))))
      ∙ simp append_assoc

  pub eleven : (r : Result T E) (l0 l1 l2 l3 l4 l5 l6 l7 l8 l9 l10 l11 a b c d e f g h i j k : List ℕ) → l1 ≡ l0 ++ a → l2 ≡ l1 ++ b → l3 ≡ l2 ++ c → l4 ≡ l3 ++ d → l5 ≡ l4 ++ e → l6 ≡ l5 ++ f
      → l7 ≡ l6 ++ g → l8 ≡ l7 ++ h → l9 ≡ l8 ++ i → l10 ≡ l9 ++ j → l11 ≡ cond (is_ok r) (l10 ++ k) l10 → OnOk r (l11 ≡ l0 ++ (a ++ b ++ c ++ d ++ e ++ f ++ g ++ h ++ i ++ j ++ k))
  eleven (Err x) l0 l1 l2 l3 l4 l5 l6 l7 l8 l9 l10 l11 a b c d e f g h i j k p1 p2 p3 p4 p5 p6 p7 p8 p9 p10 p11 = tt
  eleven (Ok x) l0 l1 l2 l3 l4 l5 l6 l7 l8 l9 l10 l11 a b c d e f g h i j k p1 p2 p3 p4 p5 p6 p7 p8 p9 p10 p11 =
      let six : l6 ≡ (((((l0 ++ a) ++ b) ++ c) ++ d) ++ e) ++ f =
      p6 ∙ ap (λ (l : List ℕ). l ++ f) (p5 ∙ ap (λ (l : List ℕ). l ++ e) (p4 ∙ ap (λ (l : List ℕ). l ++ d) (p3 ∙ ap (λ (l : List ℕ). l ++ c) (p2 ∙ ap (λ (l : List ℕ). l ++ b) p1)))) in
      p11 ∙ ap (λ (l : List ℕ). l ++ k) (p10 ∙ ap (λ (l : List ℕ). l ++ j) (p9 ∙ ap (λ (l : List ℕ). l ++ i) (p8 ∙ ap (λ (l : List ℕ). l ++ h) (p7 ∙ ap (λ (l : List ℕ). l ++ g) six))))
      ∙ simp append_assoc
