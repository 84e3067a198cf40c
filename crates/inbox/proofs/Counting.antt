-- What is counted of the peers, one after the other.
use Rattle.std.proofs.Common.{◌≡◌, ◌≢◌, ◌⊎◌, ℕ, zero, suc, ◌+◌, ◌<◌, List, [], ◌∷◌, length, get_or, Some, None, refl, sym, ap, ◌∙◌, subst, inl, inr, ⊎_elim, arith}
use Rattle.std.specs.Prelude.{slice_get, slice_index, slice_set}
use Rattle.std.specs.List.{AllByRecursion}
use Rattle.std.proofs.lemmas.List.{get_or-set_same, get_or-set_other}
use Rattle.std.proofs.lemmas.Option.{get_or_from_slice_get, same_Some}
use Rattle.inbox.specs.Arrivals.{Arrival, SentBy}
use Rattle.inbox.specs.Telling.{IsCountedOf}

module _ {A : Type 0} where
  pub below : (xs : List A) (i : ℕ) (x : A) → slice_get xs i ≡ Some x → i < length xs
  below [] i x at = absurd (let e : None ≡ Some x = at in cc)
  below (y ∷ ys) zero x at = omega arith
  below (y ∷ ys) (suc i) x at = let h = below ys i x at in omega arith

  pub all_at : (P : A → Type 0) (xs : List A) (i : ℕ) (x : A) → AllByRecursion P xs → slice_get xs i ≡ Some x → P x
  all_at P [] i x all at = absurd (let e : None ≡ Some x = at in cc)
  all_at P (y ∷ ys) zero x all at = subst P (same_Some y x at) all.0
  all_at P (y ∷ ys) (suc i) x all at = all_at P ys i x all.1 at

before_or_last : (n i : ℕ) → n < i + 1 → (n < i) ⊎ (n ≡ i)
before_or_last zero zero lt = inr refl
before_or_last zero (suc i) lt = inl (omega arith)
before_or_last (suc n) zero lt = absurd (omega arith)
before_or_last (suc n) (suc i) lt = ⊎_elim (λ (l : n < i). inl (omega arith)) (λ (e : n ≡ i). inr (ap suc e)) (before_or_last n i (omega arith))

pub counted_more : (arrivals : List Arrival) (all : List SentBy) (sent taken : List ℕ) (i : ℕ) (p : SentBy) (s t : ℕ) → i < length sent → i < length taken → p ≡ get_or all i p → IsCountedOf arrivals p s t
    → ((place : ℕ) (peer : SentBy) → place < i → slice_get all place ≡ Some peer → IsCountedOf arrivals peer (slice_index sent place) (slice_index taken place))
    → (place : ℕ) (peer : SentBy) → place < i + 1 → slice_get all place ≡ Some peer → IsCountedOf arrivals peer (slice_index (slice_set sent i s) place) (slice_index (slice_set taken i t) place)
counted_more arrivals all sent taken i p s t in_sent in_taken is counted before place peer lt at =
    ⊎_elim
    (λ (l : place < i).
    let away : place ≢ i = λ e. omega arith in
    subst (λ (n : ℕ × ℕ). IsCountedOf arrivals peer n.0 n.1) (λ k. (sym (get_or-set_other sent i place s 0 away) k, sym (get_or-set_other taken i place t 0 away) k)) (before place peer l at))
    (λ (e : place ≡ i).
    let here : slice_get all i ≡ Some peer = subst (λ (k : ℕ). slice_get all k ≡ Some peer) e at in
    let same : p ≡ peer = is ∙ get_or_from_slice_get all i peer p here in
    subst (λ (k : ℕ). IsCountedOf arrivals peer (slice_index (slice_set sent i s) k) (slice_index (slice_set taken i t) k)) (sym e)
    (subst (λ (n : ℕ × ℕ). IsCountedOf arrivals peer n.0 n.1) (λ k. (sym (get_or-set_same sent i s 0 in_sent) k, sym (get_or-set_same taken i t 0 in_taken) k))
    (subst (λ (q : SentBy). IsCountedOf arrivals q s t) same counted)))
    (before_or_last place i lt)
