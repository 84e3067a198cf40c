-- Texts that are appended one behind the other, and lists of metrics that are the same element by element.
use Rattle.std.proofs.Common.{◌≡◌, ℕ, List, [], ◌∷◌, ◌++◌, Result, Ok, Err, OnOk, subst, sym, ap, ◌∙◌, append_assoc}
use Rattle.std.proofs.lemmas.Grind.{flat_map-append}
use Rattle.std.proofs.lemmas.List.{append-nil}
use Rattle.std.specs.Prelude.{flat_map}
use Rattle.metrics.specs.Format.{Metric, metric_lines}

module _ {T E : Type 0} (r : Result T E) where
  -- what this call appended, whose answer is handed on
  abbrev pub Puts : (old new text : List ℕ) → Type 0
  Puts old new text = OnOk r (new ≡ old ++ text)

module _ {T E : Type 0} where
  -- a text that was appended before that
  pub two_on : (r : Result T E) (l0 l1 l2 a b : List ℕ) → l1 ≡ l0 ++ a → Puts r l1 l2 b → Puts r l0 l2 (a ++ b)
  two_on (Err e) l0 l1 l2 a b p q = tt
  two_on (Ok x) l0 l1 l2 a b p q = q ∙ ap (λ (l : List ℕ). l ++ b) p ∙ append_assoc l0 a b

module _ {T E : Type 0} (r : Result T E) where
  -- nothing comes behind it
  pub ended : (l0 l1 a : List ℕ) → Puts r l0 l1 a → Puts r l0 l1 (a ++ [])
  ended l0 l1 a p = subst (λ (bs : List ℕ). Puts r l0 l1 bs) (sym (append-nil a)) p

  -- the lines of metrics, and before them those of others
  pub more_lines : (l0 l1 l2 : List ℕ) (ms ns : List Metric) → l1 ≡ l0 ++ flat_map metric_lines ms
      → Puts r l1 l2 (flat_map metric_lines ns) → Puts r l0 l2 (flat_map metric_lines (ms ++ ns))
  more_lines l0 l1 l2 ms ns p q =
      subst (λ (bs : List ℕ). Puts r l0 l2 bs) (sym (flat_map-append metric_lines ms ns))
      (two_on r l0 l1 l2 (flat_map metric_lines ms) (flat_map metric_lines ns) p q)

  -- the lines of metrics that are the same
  pub same_lines : (l0 l1 : List ℕ) (ms ns : List Metric) → ms ≡ ns
      → Puts r l0 l1 (flat_map metric_lines ms) → Puts r l0 l1 (flat_map metric_lines ns)
  same_lines l0 l1 ms ns e p = subst (λ (xs : List Metric). Puts r l0 l1 (flat_map metric_lines xs)) e p

-- one more that is the same
pub same_next : (m n : Metric) (ms ns : List Metric) → m ≡ n → ms ≡ ns → (m ∷ ms) ≡ (n ∷ ns)
same_next m n ms ns e es = ap (λ (x : Metric). x ∷ ms) e ∙ ap (λ (xs : List Metric). n ∷ xs) es
