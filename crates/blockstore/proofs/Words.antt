-- Hashes that are compared eight bytes at a time are ordered as bytes.
use Rattle.std.proofs.Common.{◌≡◌, ◌≢◌, ℕ, zero, suc, ◌+◌, ◌*◌, ◌<◌, ◌≤◌, List, [], ◌∷◌, length, drop, refl, sym, ap, subst, ◌∙◌, arith, inl, inr}
use Rattle.std.specs.Prelude.{slice_index}
use Rattle.std.specs.Int.{w64, from_be_bytes}
use Rattle.std.specs.Ordering.{nat_cmp, ordering_then}
use Rattle.std.specs.Cmp.{nat_cmp_is}
use Rattle.std.specs.Cmp.Lexicographic.{slice_cmp}
use Rattle.std.specs.declared.cmp.Ordering.{Ordering}
use Rattle.std.specs.declared.cmp.Ordering.TheVariants.{Less, Equal, Greater}
use Rattle.std.proofs.lemmas.Bool.{cases_order}
use Rattle.std.proofs.lemmas.List.{drop-drop, drop_all, get_or-drop, length-drop}
use Rattle.blockstore.specs.Words.{IsSized, word_at}

-- ---- one order after another

then_assoc : (o p q : Ordering) → ordering_then (ordering_then o p) q ≡ ordering_then o (ordering_then p q)
then_assoc Less p q = refl
then_assoc Equal p q = refl
then_assoc Greater p q = refl

then_same : (o : Ordering) → ordering_then o Equal ≡ o
then_same Less = refl
then_same Equal = refl
then_same Greater = refl

-- numbers that differ decide
differ : (x y : ℕ) (o : Ordering) → x ≢ y → ordering_then (nat_cmp x y) o ≡ nat_cmp x y
differ x y o other = elim (cases_order x y) [
  | inl same ↦ absurd (other same)
  | inr (inl less) ↦ ap (λ (p : Ordering). ordering_then p o) (sym (nat_cmp_is x y Less less)) ∙ nat_cmp_is x y Less less
  | inr (inr more) ↦ ap (λ (p : Ordering). ordering_then p o) (sym (nat_cmp_is x y Greater more)) ∙ nat_cmp_is x y Greater more
]

-- and equal ones leave it to what comes after
tied : (x y : ℕ) (o : Ordering) → x ≡ y → ordering_then (nat_cmp x y) o ≡ o
tied x y o same = ap (λ (p : Ordering). ordering_then p o) (sym (nat_cmp_is x y Equal same))

-- a further digit is looked at where those before are equal
digit : (a b x y : ℕ) → x < 256 → y < 256 → ordering_then (nat_cmp a b) (nat_cmp x y) ≡ nat_cmp (a * 256 + x) (b * 256 + y)
digit a b x y fits too = elim (cases_order a b) [
  | inl same ↦ tied a b (nat_cmp x y) same ∙ elim (cases_order x y) [
    | inl one ↦ sym (nat_cmp_is x y Equal one) ∙ nat_cmp_is (a * 256 + x) (b * 256 + y) Equal (omega (arith, same, one))
    | inr (inl less) ↦ sym (nat_cmp_is x y Less less) ∙ nat_cmp_is (a * 256 + x) (b * 256 + y) Less (omega (arith, same, less))
    | inr (inr more) ↦ sym (nat_cmp_is x y Greater more) ∙ nat_cmp_is (a * 256 + x) (b * 256 + y) Greater (omega (arith, same, more))
  ]
  | inr (inl less) ↦ ap (λ (p : Ordering). ordering_then p (nat_cmp x y)) (sym (nat_cmp_is a b Less less)) ∙ nat_cmp_is (a * 256 + x) (b * 256 + y) Less (omega (arith, less, fits, too))
  | inr (inr more) ↦ ap (λ (p : Ordering). ordering_then p (nat_cmp x y)) (sym (nat_cmp_is a b Greater more)) ∙ nat_cmp_is (a * 256 + x) (b * 256 + y) Greater (omega (arith, more, fits, too))
]

-- ---- n bytes from the place i on, behind a number that stands before them

digits : (n a i : ℕ) → List ℕ → ℕ
digits zero a i xs = a
digits (suc n) a i xs = digits n (a * 256 + slice_index xs i) (suc i) xs

later : (n a i x : ℕ) (xs : List ℕ) → digits n a (suc i) (x ∷ xs) ≡ digits n a i xs
unfolding digits
later zero a i x xs = refl
later (suc n) a i x xs = later n (a * 256 + slice_index xs i) (suc i) x xs

by_digits : (n a b : ℕ) (xs ys : List ℕ) → n ≤ length xs → n ≤ length ys → ((i : ℕ) → slice_index xs i < 256) → ((i : ℕ) → slice_index ys i < 256)
    → ordering_then (nat_cmp a b) (slice_cmp nat_cmp xs ys) ≡ ordering_then (nat_cmp (digits n a 0 xs) (digits n b 0 ys)) (slice_cmp nat_cmp (drop n xs) (drop n ys))
unfolding digits
by_digits zero a b xs ys long too fits fit = refl
by_digits (suc n) a b [] ys long too fits fit = absurd (omega (arith, long))
by_digits (suc n) a b (x ∷ xs) [] long too fits fit = absurd (omega (arith, too))
by_digits (suc n) a b (x ∷ xs) (y ∷ ys) long too fits fit =
    sym (then_assoc (nat_cmp a b) (nat_cmp x y) (slice_cmp nat_cmp xs ys))
    ∙ ap (λ (o : Ordering). ordering_then o (slice_cmp nat_cmp xs ys)) (digit a b x y (fits 0) (fit 0))
    ∙ by_digits n (a * 256 + x) (b * 256 + y) xs ys (omega (arith, long)) (omega (arith, too)) (λ i. fits (suc i)) (λ i. fit (suc i))
    ∙ ap (λ (p : ℕ). ordering_then (nat_cmp p (digits n (b * 256 + y) 0 ys)) (slice_cmp nat_cmp (drop n xs) (drop n ys))) (sym (later n (a * 256 + x) 0 x xs))
    ∙ ap (λ (q : ℕ). ordering_then (nat_cmp (digits n (a * 256 + x) 1 (x ∷ xs)) q) (slice_cmp nat_cmp (drop n xs) (drop n ys))) (sym (later n (b * 256 + y) 0 y ys))

-- ---- eight bytes

eight : (xs : List ℕ) → digits 8 0 0 xs ≡ from_be_bytes w64 xs
unfolding digits
eight xs = omega arith

by_word : (xs ys : List ℕ) → 8 ≤ length xs → 8 ≤ length ys → ((i : ℕ) → slice_index xs i < 256) → ((i : ℕ) → slice_index ys i < 256)
    → slice_cmp nat_cmp xs ys ≡ ordering_then (nat_cmp (from_be_bytes w64 xs) (from_be_bytes w64 ys)) (slice_cmp nat_cmp (drop 8 xs) (drop 8 ys))
by_word xs ys long too fits fit =
    by_digits 8 0 0 xs ys long too fits fit
    ∙ ap (λ (p : ℕ). ordering_then (nat_cmp p (digits 8 0 0 ys)) (slice_cmp nat_cmp (drop 8 xs) (drop 8 ys))) (eight xs)
    ∙ ap (λ (q : ℕ). ordering_then (nat_cmp (from_be_bytes w64 xs) q) (slice_cmp nat_cmp (drop 8 xs) (drop 8 ys))) (eight ys)

-- what is left from a place on is compared by the word there, and then by what is left behind it
from_place : (at : ℕ) (xs ys : List ℕ) → at + 8 ≤ 32 → IsSized xs → IsSized ys
    → slice_cmp nat_cmp (drop at xs) (drop at ys) ≡ ordering_then (nat_cmp (word_at at xs) (word_at at ys)) (slice_cmp nat_cmp (drop (at + 8) xs) (drop (at + 8) ys))
from_place at xs ys fits sized too =
    by_word (drop at xs) (drop at ys) (long xs sized) (long ys too) (bytes xs sized) (bytes ys too)
    ∙ ap (λ (zs : List ℕ). ordering_then (nat_cmp (word_at at xs) (word_at at ys)) (slice_cmp nat_cmp zs (drop 8 (drop at ys)))) (drop-drop 8 at xs)
    ∙ ap (λ (zs : List ℕ). ordering_then (nat_cmp (word_at at xs) (word_at at ys)) (slice_cmp nat_cmp (drop (at + 8) xs) zs)) (drop-drop 8 at ys)
  where
    long : (zs : List ℕ) → IsSized zs → 8 ≤ length (drop at zs)
    long zs is = let l = length-drop at zs in let n = is.0 in omega (arith, l, n, fits)

    bytes : (zs : List ℕ) → IsSized zs → (i : ℕ) → slice_index (drop at zs) i < 256
    bytes zs is i = subst (λ (b : ℕ). b < 256) (sym (get_or-drop at zs i 0)) (is.1 (at + i))

-- ---- 32 bytes

pub first_word : (xs ys : List ℕ) → IsSized xs → IsSized ys → slice_cmp nat_cmp xs ys ≡ ordering_then (nat_cmp (word_at 0 xs) (word_at 0 ys)) (slice_cmp nat_cmp (drop 8 xs) (drop 8 ys))
first_word xs ys sized too = from_place 0 xs ys (omega arith) sized too

pub second_word : (xs ys : List ℕ) → IsSized xs → IsSized ys → slice_cmp nat_cmp (drop 8 xs) (drop 8 ys) ≡ ordering_then (nat_cmp (word_at 8 xs) (word_at 8 ys)) (slice_cmp nat_cmp (drop 16 xs) (drop 16 ys))
second_word xs ys sized too = from_place 8 xs ys (omega arith) sized too

pub third_word : (xs ys : List ℕ) → IsSized xs → IsSized ys → slice_cmp nat_cmp (drop 16 xs) (drop 16 ys) ≡ ordering_then (nat_cmp (word_at 16 xs) (word_at 16 ys)) (slice_cmp nat_cmp (drop 24 xs) (drop 24 ys))
third_word xs ys sized too = from_place 16 xs ys (omega arith) sized too

pub last_word : (xs ys : List ℕ) → IsSized xs → IsSized ys → slice_cmp nat_cmp (drop 24 xs) (drop 24 ys) ≡ nat_cmp (word_at 24 xs) (word_at 24 ys)
last_word xs ys sized too =
    from_place 24 xs ys (omega arith) sized too
    ∙ ap (λ (zs : List ℕ). ordering_then (nat_cmp (word_at 24 xs) (word_at 24 ys)) (slice_cmp nat_cmp zs (drop 32 ys))) (nothing xs sized)
    ∙ ap (λ (zs : List ℕ). ordering_then (nat_cmp (word_at 24 xs) (word_at 24 ys)) (slice_cmp nat_cmp [] zs)) (nothing ys too)
    ∙ then_same (nat_cmp (word_at 24 xs) (word_at 24 ys))
  where
    nothing : (zs : List ℕ) → IsSized zs → drop 32 zs ≡ []
    nothing zs is = let n = is.0 in drop_all 32 zs (omega (arith, n))

-- two words that differ decide, and equal ones leave it to what comes after
pub words_differ : (at : ℕ) (xs ys : List ℕ) (x y : ℕ) (o : Ordering) → x ≡ word_at at xs → y ≡ word_at at ys → x ≢ y → ordering_then (nat_cmp (word_at at xs) (word_at at ys)) o ≡ nat_cmp x y
words_differ at xs ys x y o is too other =
    (λ i. ordering_then (nat_cmp (sym is i) (sym too i)) o) ∙ differ x y o other

pub words_tied : (at : ℕ) (xs ys : List ℕ) (x y : ℕ) (o : Ordering) → x ≡ word_at at xs → y ≡ word_at at ys → x ≡ y → ordering_then (nat_cmp (word_at at xs) (word_at at ys)) o ≡ o
words_tied at xs ys x y o is too same = tied (word_at at xs) (word_at at ys) o (sym is ∙ (same ∙ too))
