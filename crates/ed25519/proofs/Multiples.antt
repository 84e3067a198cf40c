use Rattle.std.proofs.Common.{inl, inr, ◌≡◌, ℕ, suc, ◌+◌, ◌*◌, ◌/◌, ◌-◌, ◌^◌, ◌%◌, ◌<◌, Some, List, length}
use Rattle.std.proofs.Common.{slice_get, slice_set, refl, ap, ◌∙◌, arith}
use Rattle.std.proofs.Math.Nat.{div-eq_of_lt}
use Rattle.std.proofs.lemmas.Nat.{pow-add, shr-shr}
use Rattle.std.proofs.lemmas.List.{length-set, get_or-set_same, get_or-set_other}
use Rattle.std.proofs.lemmas.Bool.Decides.{eqb_tells}
use Rattle.std.proofs.lemmas.Option.{slice_get-get_or, get_or_from_slice_get}
use Rattle.ed25519.specs.Arithmetic.{plus, prime, times}
use Rattle.ed25519.specs.Points.{added, doubled, multiple, neutral, small_multiple}
use Rattle.ed25519.specs.Inside.{words}
use Rattle.ed25519.specs.declared.point.Point.{Point}

-- x + x is 2 x
pub twice : (x : ℕ) → plus x x ≡ times 2 x
twice x = let e : x + x ≡ 2 * x = omega arith in ap (λ (n : ℕ). n % prime) e

-- the next of the small multiples
pub one_more : (i : ℕ) (p s : Point) → 0 < i → s ≡ small_multiple (i - 1) p → added s p ≡ small_multiple i p
unfolding small_multiple
one_more i p s h e =
    let c : i ≡ suc (i - 1) = omega arith in
    rw c (ap (λ (v : Point). added v p) e)

written_here : {X : Type 0} (xs : List X) (i : ℕ) (v : X) → i < length xs → slice_get (slice_set xs i v) i ≡ Some v
written_here xs i v h =
    let b : i < length (slice_set xs i v) = rw (length-set xs i v) h in
    slice_get-get_or (slice_set xs i v) i v b ∙ ap Some (get_or-set_same xs i v v h)

kept_before : {X : Type 0} (xs : List X) (i n : ℕ) (v w : X) → i < length xs → n < i → slice_get xs n ≡ Some w →
    slice_get (slice_set xs i v) n ≡ Some w
kept_before xs i n v w h l e =
    let b : n < length (slice_set xs i v) = rw (length-set xs i v) (omega arith) in
    slice_get-get_or (slice_set xs i v) n v b ∙ ap Some (get_or-set_other xs i n v v (omega arith))
    ∙ ap Some (get_or_from_slice_get xs n w v e)

-- one more place of a table is filled
pub one_more_place : {X : Type 0} (f : ℕ → X) (xs : List X) (i : ℕ) (v : X) → i < length xs → v ≡ f i →
    ((n : ℕ) → n < i → slice_get xs n ≡ Some (f n)) → (n : ℕ) → n < i + 1 → slice_get (slice_set xs i v) n ≡ Some (f n)
one_more_place f xs i v h e before n l =
    elim (eqb_tells n i) [
      | inl same ↦ rw same.1 (written_here xs i v h ∙ ap Some e)
      | inr other ↦ kept_before xs i n v (f n) h (omega (arith, other.1)) (before n (omega (arith, other.1)))
    ]

-- no digit of the word read
pub none_read : (k m w : ℕ) (p : Point) → w < 2 ^ 64 → multiple k m p ≡ multiple (k + 0)
    (m * 2 ^ (4 * 0) + w / 2 ^ (64 - 4 * 0)) p
none_read k m w p h =
    let e : k ≡ k + 0 = omega arith in
    let d : w / 2 ^ 64 ≡ 0 = div-eq_of_lt h in
    let f : m ≡ m * 2 ^ (4 * 0) + w / 2 ^ (64 - 4 * 0) = omega arith in
    ap (λ (v : ℕ). multiple v m p) e ∙ ap (λ (v : ℕ). multiple (k + 0) v p) f

-- the number before it, 16 times
sixteen_times : (m i : ℕ) → m * 2 ^ (4 * (i + 1)) ≡ 16 * (m * 2 ^ (4 * i))
sixteen_times m i =
    let e : 4 * (i + 1) ≡ 4 * i + 4 = omega arith in
    let u : m * 2 ^ (4 * i + 4) ≡ 16 * (m * 2 ^ (4 * i)) =
    omega (arith, ap (λ (v : ℕ). m * v) (pow-add 2 (4 * i) 4)) in
    ap (λ (v : ℕ). m * 2 ^ v) e ∙ u

higher_from : (a b c d : ℕ) → a ≡ 16 * b → c / 16 ≡ d → (a + c) / 16 ≡ b + d
higher_from a b c d u t = omega arith

-- the number that one more digit ends
higher : (m w i : ℕ) → i < 16 →
    (m * 2 ^ (4 * (i + 1)) + w / 2 ^ (64 - 4 * (i + 1))) / 16 ≡ m * 2 ^ (4 * i) + w / 2 ^ (64 - 4 * i)
higher m w i h =
    let s : w / 2 ^ (64 - 4 * (i + 1)) / 2 ^ 4 ≡ w / 2 ^ (64 - 4 * (i + 1) + 4) = shr-shr w (64 - 4 * (i + 1)) 4 in
    let e : 64 - 4 * (i + 1) + 4 ≡ 64 - 4 * i = omega arith in
    let t : w / 2 ^ (64 - 4 * (i + 1)) / 16 ≡ w / 2 ^ (64 - 4 * i) = s ∙ ap (λ (v : ℕ). w / 2 ^ v) e in
    higher_from (m * 2 ^ (4 * (i + 1))) (m * 2 ^ (4 * i)) (w / 2 ^ (64 - 4 * (i + 1))) (w / 2 ^ (64 - 4 * i))
    (sixteen_times m i) t

lowest_from : (a b c d : ℕ) → a ≡ 16 * b → c ≡ d → (a + c) % 16 ≡ d % 16
lowest_from a b c d u f = omega arith

-- the digit that ends it
lowest : (m w i : ℕ) → (m * 2 ^ (4 * (i + 1)) + w / 2 ^ (64 - 4 * (i + 1))) % 16 ≡ w / 2 ^ (60 - 4 * i) % 16
lowest m w i =
    let e : 64 - 4 * (i + 1) ≡ 60 - 4 * i = omega arith in
    lowest_from (m * 2 ^ (4 * (i + 1))) (m * 2 ^ (4 * i)) (w / 2 ^ (64 - 4 * (i + 1))) (w / 2 ^ (60 - 4 * i))
    (sixteen_times m i) (ap (λ (v : ℕ). w / 2 ^ v) e)

-- one more digit of the word read
pub next_digit : (k m w i : ℕ) (p s : Point) → i < 16 →
    s ≡ multiple (k + i) (m * 2 ^ (4 * i) + w / 2 ^ (64 - 4 * i)) p →
    added (doubled (doubled (doubled (doubled s)))) (small_multiple (w / 2 ^ (60 - 4 * i) % 16) p)
    ≡ multiple (k + (i + 1)) (m * 2 ^ (4 * (i + 1)) + w / 2 ^ (64 - 4 * (i + 1))) p
unfolding multiple
next_digit k m w i p s h e =
    let c : k + (i + 1) ≡ suc (k + i) = omega arith in
    rw (c, lowest m w i, higher m w i h)
    (ap
    (λ (v : Point). added (doubled (doubled (doubled (doubled v)))) (small_multiple (w / 2 ^ (60 - 4 * i) % 16) p))
    e)

pub all_read : (k m w : ℕ) (p : Point) → multiple (k + 16) (m * 2 ^ (4 * 16) + w / 2 ^ (64 - 4 * 16)) p
    ≡ multiple (k + 16) (m * 2 ^ 64 + w) p
all_read k m w p =
    let e : w / 2 ^ (64 - 4 * 16) ≡ w = omega arith in ap (λ (v : ℕ). multiple (k + 16) (m * 2 ^ 64 + v) p) e

none_yet : (p : Point) → neutral ≡ multiple 0 0 p
unfolding multiple
none_yet p = refl

pub four_words : (w0 w1 w2 w3 : ℕ) (p q0 : Point) → q0 ≡ neutral → (q1 q2 q3 q4 : Point) →
    ((k m : ℕ) → q0 ≡ multiple k m p → q1 ≡ multiple (k + 16) (m * 2 ^ 64 + w3) p) →
    ((k m : ℕ) → q1 ≡ multiple k m p → q2 ≡ multiple (k + 16) (m * 2 ^ 64 + w2) p) →
    ((k m : ℕ) → q2 ≡ multiple k m p → q3 ≡ multiple (k + 16) (m * 2 ^ 64 + w1) p) →
    ((k m : ℕ) → q3 ≡ multiple k m p → q4 ≡ multiple (k + 16) (m * 2 ^ 64 + w0) p) →
    q4 ≡ multiple 64 (words w0 w1 w2 w3) p
unfolding words
four_words w0 w1 w2 w3 p q0 e q1 q2 q3 q4 h3 h2 h1 h0 =
    let n : ((((0 * 2 ^ 64 + w3) * 2 ^ 64 + w2) * 2 ^ 64 + w1) * 2 ^ 64 + w0) ≡ w0 + 2 ^ 64 * w1 + 2 ^ 128 * w2 + 2 ^
    192 * w3 = omega arith in
    h0 48 _ (h1 32 _ (h2 16 _ (h3 0 0 (e ∙ none_yet p)))) ∙ ap (λ (v : ℕ). multiple 64 v p) n
