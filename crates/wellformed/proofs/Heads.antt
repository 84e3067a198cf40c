-- A head as its first byte and the bytes after it.
use Rattle.std.proofs.Common.{◌≡◌, ℕ, zero, suc, ◌+◌, ◌*◌, ◌^◌, ◌<◌, ◌≤◌, List, [], ◌∷◌, length, get_or, refl, sym, ap, ◌∙◌, arith, inl, inr}
use Rattle.std.specs.Int.{w16, w32, w64, to_be_bytes, from_be_bytes}
use Rattle.std.proofs.lemmas.Bool.{cases_lt, lt-ltb, le-ltb}
use Rattle.std.proofs.lemmas.Nat.{be_bytes_2, be_bytes_4, be_bytes_8, from_be_bytes-to_be_bytes_2, from_be_bytes-to_be_bytes_4, from_be_bytes-to_be_bytes_8}
use Rattle.model.specs.Cbor.{head}
use Rattle.cbor.proofs.ForCallers.{IsBytes}
use Rattle.wellformed.specs.Parts.{low_bits, tail_of}

-- in how many bytes after the first one a head holds its argument
pub data Size (n : ℕ) : Type 0 where
  InFirst : n < 24 → Size n
  InOne : 24 ≤ n → n < 256 → Size n
  InTwo : 256 ≤ n → n < 65536 → Size n
  InFour : 65536 ≤ n → n < 4294967296 → Size n
  InEight : 4294967296 ≤ n → Size n

pub size : (n : ℕ) → Size n
size n =
    elim (cases_lt n 24) [
      | inl first ↦ InFirst first
      | inr past_first ↦ elim (cases_lt n 256) [
        | inl one ↦ InOne past_first one
        | inr past_one ↦ elim (cases_lt n 65536) [
          | inl two ↦ InTwo past_one two
          | inr past_two ↦ elim (cases_lt n 4294967296) [
            | inl four ↦ InFour past_two four
            | inr past_four ↦ InEight past_four
          ]
        ]
      ]
    ]

-- the low bits and the tail for each size
pub record Tail (n low : ℕ) (text : List ℕ) : Type 0 where
  pub low_is : low_bits n ≡ low
  pub text_is : tail_of n ≡ text
  pub head_is : (m : ℕ) → head m n ≡ (32 * m + low) ∷ text

pub in_first : (n : ℕ) → n < 24 → Tail n n []
unfolding head low_bits tail_of
in_first n lt =
    let a = lt-ltb n 24 lt in
    record { low_is = rw a refl; text_is = rw a refl; head_is = λ m. rw a refl }

pub in_one : (n : ℕ) → 24 ≤ n → n < 256 → Tail n 24 (n ∷ [])
unfolding head low_bits tail_of
in_one n le lt =
    let a = le-ltb n 24 le in
    let b = lt-ltb n 256 lt in
    record { low_is = rw (a, b) refl; text_is = rw (a, b) refl; head_is = λ m. rw (a, b) refl }

pub in_two : (n : ℕ) → 256 ≤ n → n < 65536 → Tail n 25 (to_be_bytes w16 n)
unfolding head low_bits tail_of
in_two n le lt =
    let a = le-ltb n 24 (omega arith) in
    let b = le-ltb n 256 le in
    let c = lt-ltb n 65536 lt in
    record { low_is = rw (a, b, c) refl; text_is = rw (a, b, c) refl; head_is = λ m. rw (a, b, c) refl }

pub in_four : (n : ℕ) → 65536 ≤ n → n < 4294967296 → Tail n 26 (to_be_bytes w32 n)
unfolding head low_bits tail_of
in_four n le lt =
    let a = le-ltb n 24 (omega arith) in
    let b = le-ltb n 256 (omega arith) in
    let c = le-ltb n 65536 le in
    let d = lt-ltb n 4294967296 lt in
    record { low_is = rw (a, b, c, d) refl; text_is = rw (a, b, c, d) refl; head_is = λ m. rw (a, b, c, d) refl }

pub in_eight : (n : ℕ) → 4294967296 ≤ n → Tail n 27 (to_be_bytes w64 n)
unfolding head low_bits tail_of
in_eight n le =
    let a = le-ltb n 24 (omega arith) in
    let b = le-ltb n 256 (omega arith) in
    let c = le-ltb n 65536 (omega arith) in
    let d = le-ltb n 4294967296 le in
    record { low_is = rw (a, b, c, d) refl; text_is = rw (a, b, c, d) refl; head_is = λ m. rw (a, b, c, d) refl }

by_tail : (m n low : ℕ) (text : List ℕ) → Tail n low text → head m n ≡ (32 * m + low_bits n) ∷ tail_of n
by_tail m n low text t = rw (t.low_is, t.text_is) (t.head_is m)

by_size : (m n : ℕ) → Size n → head m n ≡ (32 * m + low_bits n) ∷ tail_of n
by_size m n (InFirst lt) = by_tail m n n [] (in_first n lt)
by_size m n (InOne le lt) = by_tail m n 24 (n ∷ []) (in_one n le lt)
by_size m n (InTwo le lt) = by_tail m n 25 (to_be_bytes w16 n) (in_two n le lt)
by_size m n (InFour le lt) = by_tail m n 26 (to_be_bytes w32 n) (in_four n le lt)
by_size m n (InEight le) = by_tail m n 27 (to_be_bytes w64 n) (in_eight n le)

-- a head is a first byte and a tail
pub head_parts : (m n : ℕ) → head m n ≡ (32 * m + low_bits n) ∷ tail_of n
head_parts m n = by_size m n (size n)

small_by : (n : ℕ) → Size n → low_bits n < 28
small_by n (InFirst lt) = rw (in_first n lt).low_is (omega arith)
small_by n (InOne le lt) = rw (in_one n le lt).low_is (omega arith)
small_by n (InTwo le lt) = rw (in_two n le lt).low_is (omega arith)
small_by n (InFour le lt) = rw (in_four n le lt).low_is (omega arith)
small_by n (InEight le) = rw (in_eight n le).low_is (omega arith)

pub low_small : (n : ℕ) → low_bits n < 28
low_small n = small_by n (size n)

direct_by : (n low : ℕ) → Size n → low_bits n ≡ low → low < 24 → n ≡ low
direct_by n low (InFirst lt) e l = sym (in_first n lt).low_is ∙ e
direct_by n low (InOne le lt) e l = absurd (omega (arith, sym (in_one n le lt).low_is ∙ e, l))
direct_by n low (InTwo le lt) e l = absurd (omega (arith, sym (in_two n le lt).low_is ∙ e, l))
direct_by n low (InFour le lt) e l = absurd (omega (arith, sym (in_four n le lt).low_is ∙ e, l))
direct_by n low (InEight le) e l = absurd (omega (arith, sym (in_eight n le).low_is ∙ e, l))

-- low bits below 24 are the argument
pub direct : (n low : ℕ) → low_bits n ≡ low → low < 24 → n ≡ low
direct n low e l = direct_by n low (size n) e l

-- what the tail is where the low bits are known
pub record OneByte (n : ℕ) : Type 0 where
  pub least : 24 ≤ n
  pub limit : n < 256
  pub is : tail_of n ≡ n ∷ []

one_by : (n : ℕ) → Size n → low_bits n ≡ 24 → OneByte n
one_by n (InFirst lt) e = absurd (omega (arith, sym (in_first n lt).low_is ∙ e, lt))
one_by n (InOne le lt) e = record { least = le; limit = lt; is = (in_one n le lt).text_is }
one_by n (InTwo le lt) e = absurd (omega (arith, sym (in_two n le lt).low_is ∙ e))
one_by n (InFour le lt) e = absurd (omega (arith, sym (in_four n le lt).low_is ∙ e))
one_by n (InEight le) e = absurd (omega (arith, sym (in_eight n le).low_is ∙ e))

pub one_byte : (n : ℕ) → low_bits n ≡ 24 → OneByte n
one_byte n e = one_by n (size n) e

-- ---- longer tails

-- the bytes are the tail of this argument
pub record IsTailOf (low n : ℕ) (bytes : List ℕ) : Type 0 where
  pub fits : n < 2 ^ 64
  pub low_is : low_bits n ≡ low
  pub is : bytes ≡ tail_of n

-- Tails of `width` bytes, of which the first `suc upper` are not all zero, and which hold this number.
pub record IsWide (low upper width : ℕ) (number : List ℕ → ℕ) : Type 0 where
  pub longer : suc upper < width
  pub makes : (bytes : List ℕ) → length bytes ≡ width → IsBytes bytes → (k : ℕ) → k ≤ upper → 0 < get_or bytes k 0 → IsTailOf low (number bytes) bytes
  pub long : (n : ℕ) → low_bits n ≡ low → length (tail_of n) ≡ width
  pub some : (n : ℕ) → n < 2 ^ 64 → low_bits n ≡ low → ((k : ℕ) → k ≤ upper → get_or (tail_of n) k 0 ≡ 0) → ⊥

two_by : (n : ℕ) → Size n → low_bits n ≡ 25 → (256 ≤ n) × (n < 65536)
two_by n (InFirst lt) e = absurd (omega (arith, sym (in_first n lt).low_is ∙ e, lt))
two_by n (InOne le lt) e = absurd (omega (arith, sym (in_one n le lt).low_is ∙ e))
two_by n (InTwo le lt) e = (le, lt)
two_by n (InFour le lt) e = absurd (omega (arith, sym (in_four n le lt).low_is ∙ e))
two_by n (InEight le) e = absurd (omega (arith, sym (in_eight n le).low_is ∙ e))

four_by : (n : ℕ) → Size n → low_bits n ≡ 26 → (65536 ≤ n) × (n < 4294967296)
four_by n (InFirst lt) e = absurd (omega (arith, sym (in_first n lt).low_is ∙ e, lt))
four_by n (InOne le lt) e = absurd (omega (arith, sym (in_one n le lt).low_is ∙ e))
four_by n (InTwo le lt) e = absurd (omega (arith, sym (in_two n le lt).low_is ∙ e))
four_by n (InFour le lt) e = (le, lt)
four_by n (InEight le) e = absurd (omega (arith, sym (in_eight n le).low_is ∙ e))

eight_by : (n : ℕ) → Size n → low_bits n ≡ 27 → 4294967296 ≤ n
eight_by n (InFirst lt) e = absurd (omega (arith, sym (in_first n lt).low_is ∙ e, lt))
eight_by n (InOne le lt) e = absurd (omega (arith, sym (in_one n le lt).low_is ∙ e))
eight_by n (InTwo le lt) e = absurd (omega (arith, sym (in_two n le lt).low_is ∙ e))
eight_by n (InFour le lt) e = absurd (omega (arith, sym (in_four n le lt).low_is ∙ e))
eight_by n (InEight le) e = le

-- one of the first bytes is not zero, so their sum is not
among_two : (bytes : List ℕ) (k : ℕ) → k ≤ 1 → 0 < get_or bytes k 0 → 0 < get_or bytes 0 0 + get_or bytes 1 0
among_two bytes zero le h = omega arith
among_two bytes (suc zero) le h = omega arith
among_two bytes (suc (suc k)) le h = absurd (omega arith)

among_four : (bytes : List ℕ) (k : ℕ) → k ≤ 3 → 0 < get_or bytes k 0 → 0 < get_or bytes 0 0 + get_or bytes 1 0 + get_or bytes 2 0 + get_or bytes 3 0
among_four bytes zero le h = omega arith
among_four bytes (suc zero) le h = omega arith
among_four bytes (suc (suc zero)) le h = omega arith
among_four bytes (suc (suc (suc zero))) le h = omega arith
among_four bytes (suc (suc (suc (suc k)))) le h = absurd (omega arith)

makes_two : (bytes : List ℕ) → length bytes ≡ 2 → IsBytes bytes → (k : ℕ) → k ≤ 0 → 0 < get_or bytes k 0 → IsTailOf 25 (from_be_bytes w16 bytes) bytes
makes_two bytes len fits (suc k) le h = absurd (omega arith)
makes_two bytes len fits zero le h =
    let n = from_be_bytes w16 bytes in
    let least : 256 ≤ n = omega (arith, h) in
    let limit : n < 65536 = omega (arith, fits 0, fits 1) in
    let t = in_two n least limit in
    record { fits = omega (arith, limit); low_is = t.low_is; is = sym (t.text_is ∙ be_bytes_2 bytes n len fits refl) }

makes_four : (bytes : List ℕ) → length bytes ≡ 4 → IsBytes bytes → (k : ℕ) → k ≤ 1 → 0 < get_or bytes k 0 → IsTailOf 26 (from_be_bytes w32 bytes) bytes
makes_four bytes len fits k le h =
    let n = from_be_bytes w32 bytes in
    let least : 65536 ≤ n = omega (arith, among_two bytes k le h) in
    let limit : n < 4294967296 = omega (arith, fits 0, fits 1, fits 2, fits 3) in
    let t = in_four n least limit in
    record { fits = omega (arith, limit); low_is = t.low_is; is = sym (t.text_is ∙ be_bytes_4 bytes n len fits refl) }

makes_eight : (bytes : List ℕ) → length bytes ≡ 8 → IsBytes bytes → (k : ℕ) → k ≤ 3 → 0 < get_or bytes k 0 → IsTailOf 27 (from_be_bytes w64 bytes) bytes
makes_eight bytes len fits k le h =
    let n = from_be_bytes w64 bytes in
    let least : 4294967296 ≤ n = omega (arith, among_four bytes k le h) in
    let t = in_eight n least in
    record { fits = omega (arith, fits 0, fits 1, fits 2, fits 3, fits 4, fits 5, fits 6, fits 7); low_is = t.low_is; is = sym (t.text_is ∙ be_bytes_8 bytes n len fits refl) }

pub wide_two : IsWide 25 0 2 (from_be_bytes w16)
wide_two = record {
  longer = omega arith;
  makes = makes_two;
  long = λ n e. let s = two_by n (size n) e in ap length (in_two n s.0 s.1).text_is;
  some = λ n fits e none. some_two n (two_by n (size n) e) none;
}
  where
    some_two : (n : ℕ) → (256 ≤ n) × (n < 65536) → ((k : ℕ) → k ≤ 0 → get_or (tail_of n) k 0 ≡ 0) → ⊥
    some_two n s none =
        let z : get_or (to_be_bytes w16 n) 0 0 ≡ 0 = ap (λ (t : List ℕ). get_or t 0 0) (sym (in_two n s.0 s.1).text_is) ∙ none 0 (omega arith) in
        omega (arith, z, s.0, from_be_bytes-to_be_bytes_2 n s.1)

pub wide_four : IsWide 26 1 4 (from_be_bytes w32)
wide_four = record {
  longer = omega arith;
  makes = makes_four;
  long = λ n e. let s = four_by n (size n) e in ap length (in_four n s.0 s.1).text_is;
  some = λ n fits e none. some_four n (four_by n (size n) e) none;
}
  where
    some_four : (n : ℕ) → (65536 ≤ n) × (n < 4294967296) → ((k : ℕ) → k ≤ 1 → get_or (tail_of n) k 0 ≡ 0) → ⊥
    some_four n s none =
        let z : (k : ℕ) → k ≤ 1 → get_or (to_be_bytes w32 n) k 0 ≡ 0 = λ k le. ap (λ (t : List ℕ). get_or t k 0) (sym (in_four n s.0 s.1).text_is) ∙ none k le in
        omega (arith, z 0 (omega arith), z 1 (omega arith), s.0, from_be_bytes-to_be_bytes_4 n s.1)

pub wide_eight : IsWide 27 3 8 (from_be_bytes w64)
wide_eight = record {
  longer = omega arith;
  makes = makes_eight;
  long = λ n e. ap length (in_eight n (eight_by n (size n) e)).text_is;
  some = λ n fits e none. some_eight n fits (eight_by n (size n) e) none;
}
  where
    some_eight : (n : ℕ) → n < 2 ^ 64 → 4294967296 ≤ n → ((k : ℕ) → k ≤ 3 → get_or (tail_of n) k 0 ≡ 0) → ⊥
    some_eight n fits least none =
        let z : (k : ℕ) → k ≤ 3 → get_or (to_be_bytes w64 n) k 0 ≡ 0 = λ k le. ap (λ (t : List ℕ). get_or t k 0) (sym (in_eight n least).text_is) ∙ none k le in
        omega (arith, z 0 (omega arith), z 1 (omega arith), z 2 (omega arith), z 3 (omega arith), least, from_be_bytes-to_be_bytes_8 n fits)
