-- Heads: a text that begins with a head begins with no other one.
use Rattle.std.proofs.Common.{◌≡◌, ℕ, ◌+◌, ◌*◌, ◌^◌, ◌<◌, ◌≤◌, List, [], ◌∷◌, ◌++◌, length, get_or, take, drop, refl, sym, ap, ◌∙◌, arith, inl, inr, nat_lt, ◌==◌, if◌then◌else◌}
use Rattle.std.specs.Int.{w16, w32, w64, to_be_bytes, from_be_bytes}
use Rattle.std.proofs.lemmas.Bool.{cases_lt, lt-ltb, le-ltb}
use Rattle.std.proofs.lemmas.List.{take_at, drop_at}
use Rattle.std.proofs.lemmas.Nat.{from_be_bytes-to_be_bytes_2, from_be_bytes-to_be_bytes_4, from_be_bytes-to_be_bytes_8}
use Rattle.model.specs.Cbor.{head}

-- how many bytes follow a first byte with these low five bits
abbrev pub more_bytes : ℕ → ℕ
more_bytes low = if nat_lt low 24 then 0 else if low == 24 then 1 else if low == 25 then 2 else if low == 26 then 4 else 8

-- the argument that the low five bits and the bytes after the first say
abbrev pub said_argument : ℕ → List ℕ → ℕ
said_argument low more =
    if nat_lt low 24 then low
    else if low == 24 then get_or more 0 0
    else if low == 25 then from_be_bytes w16 more
    else if low == 26 then from_be_bytes w32 more
    else from_be_bytes w64 more

-- a head as its first byte, the major type and five bits, and the bytes after it, from which the argument follows
record IsHead (major n low : ℕ) (more : List ℕ) : Type 0 where
  is : head major n ≡ (32 * major + low) ∷ more
  fits : low < 32
  long : length more ≡ more_bytes low
  again : said_argument low more ≡ n

-- that a head has such parts
record HeadParts (major n : ℕ) : Type 0 where
  low : ℕ
  more : List ℕ
  parts : IsHead major n low more

parts_in_first : (major n : ℕ) → n < 24 → HeadParts major n
unfolding head
parts_in_first major n lt =
    let small = lt-ltb n 24 lt in
    record { low = n; more = []; parts = record { is = rw small refl; fits = omega arith; long = rw small refl; again = rw small refl } }

parts_in_1 : (major n : ℕ) → 24 ≤ n → n < 256 → HeadParts major n
unfolding head
parts_in_1 major n le lt =
    record { low = 24; more = n ∷ []; parts = record { is = rw (le-ltb n 24 le, lt-ltb n 256 lt) refl; fits = omega arith; long = refl; again = refl } }

parts_in_2 : (major n : ℕ) → 256 ≤ n → n < 65536 → HeadParts major n
unfolding head
parts_in_2 major n le lt =
    record {
      low = 25;
      more = to_be_bytes w16 n;
      parts = record { is = rw (le-ltb n 24 (omega arith), le-ltb n 256 le, lt-ltb n 65536 lt) refl; fits = omega arith; long = refl; again = from_be_bytes-to_be_bytes_2 n lt };
    }

parts_in_4 : (major n : ℕ) → 65536 ≤ n → n < 4294967296 → HeadParts major n
unfolding head
parts_in_4 major n le lt =
    record {
      low = 26;
      more = to_be_bytes w32 n;
      parts = record { is = rw (le-ltb n 24 (omega arith), le-ltb n 256 (omega arith), le-ltb n 65536 le, lt-ltb n 4294967296 lt) refl; fits = omega arith; long = refl; again = from_be_bytes-to_be_bytes_4 n lt };
    }

parts_in_8 : (major n : ℕ) → 4294967296 ≤ n → n < 2 ^ 64 → HeadParts major n
unfolding head
parts_in_8 major n le lt =
    record {
      low = 27;
      more = to_be_bytes w64 n;
      parts = record { is = rw (le-ltb n 24 (omega arith), le-ltb n 256 (omega arith), le-ltb n 65536 (omega arith), le-ltb n 4294967296 le) refl; fits = omega arith; long = refl; again = from_be_bytes-to_be_bytes_8 n lt };
    }

parts_of : (major n : ℕ) → n < 2 ^ 64 → HeadParts major n
parts_of major n lt =
    elim (cases_lt n 24) [
      | inl first ↦ parts_in_first major n first
      | inr past_first ↦ elim (cases_lt n 256) [
        | inl one ↦ parts_in_1 major n past_first one
        | inr past_one ↦ elim (cases_lt n 65536) [
          | inl two ↦ parts_in_2 major n past_one two
          | inr past_two ↦ elim (cases_lt n 4294967296) [
            | inl four ↦ parts_in_4 major n past_two four
            | inr past_four ↦ parts_in_8 major n past_four lt
          ]
        ]
      ]
    ]

-- two lists of one length that begin the same list are equal, and so is what follows them
pub same_beginnings : (s t x y : List ℕ) → length s ≡ length t → s ++ x ≡ t ++ y → (s ≡ t) × (x ≡ y)
same_beginnings s t x y same e = (
  sym (take_at s x (length t) same) ∙ ap (take (length t)) e ∙ take_at t y (length t) refl,
  sym (drop_at s x (length t) same) ∙ ap (drop (length t)) e ∙ drop_at t y (length t) refl,
)

same_first : (a b : ℕ) (s t : List ℕ) → a ∷ s ≡ b ∷ t → (a ≡ b) × (s ≡ t)
same_first a b s t e = (cc, cc)

-- two heads that are one, and what follows them
pub record SameHeads (m n a b : ℕ) (x y : List ℕ) : Type 0 where
  pub major : m ≡ n
  pub argument : a ≡ b
  pub rest : x ≡ y

same_parts : (m n a b : ℕ) (x y : List ℕ) (low high : ℕ) (s t : List ℕ) → IsHead m a low s → IsHead n b high t → head m a ++ x ≡ head n b ++ y → SameHeads m n a b x y
same_parts m n a b x y low high s t p q e =
    let texts : (32 * m + low) ∷ (s ++ x) ≡ (32 * n + high) ∷ (t ++ y) = ap (λ (h : List ℕ). h ++ x) (sym p.is) ∙ e ∙ ap (λ (h : List ℕ). h ++ y) q.is in
    let firsts = same_first (32 * m + low) (32 * n + high) (s ++ x) (t ++ y) texts in
    let lows : low ≡ high = omega (arith, firsts.0, p.fits, q.fits) in
    let rests = same_beginnings s t x y (p.long ∙ ap more_bytes lows ∙ sym q.long) firsts.1 in
    record {
      major = omega (arith, firsts.0, p.fits, q.fits);
      argument = sym p.again ∙ ap (λ (l : ℕ). said_argument l s) lows ∙ ap (said_argument high) rests.0 ∙ q.again;
      rest = rests.1;
    }

-- where texts that begin with heads are equal, the heads are, and so is what follows them
pub same_heads : (m n a b : ℕ) (x y : List ℕ) → a < 2 ^ 64 → b < 2 ^ 64 → head m a ++ x ≡ head n b ++ y → SameHeads m n a b x y
same_heads m n a b x y la lb e =
    let p = parts_of m a la in
    let q = parts_of n b lb in
    same_parts m n a b x y p.low q.low p.more q.more p.parts q.parts e

-- what a first byte and the bytes after it say of the head that they are
pub record HeadSays (major n m low : ℕ) (rest : List ℕ) : Type 0 where
  pub same_major : major ≡ m
  pub is_said : n ≡ said_argument low (take (more_bytes low) rest)

-- a text that begins with a head says its major type and its argument
pub head_says : (major n : ℕ) (x : List ℕ) (m low : ℕ) (rest : List ℕ) → n < 2 ^ 64 → low < 32 → head major n ++ x ≡ (32 * m + low) ∷ rest → HeadSays major n m low rest
head_says major n x m low rest ln ll e =
    let p = parts_of major n ln in
    let firsts = same_first (32 * major + p.low) (32 * m + low) (p.more ++ x) rest (ap (λ (h : List ℕ). h ++ x) (sym p.parts.is) ∙ e) in
    let fits = p.parts.fits in
    let lows : p.low ≡ low = omega (arith, firsts.0, fits) in
    let more : take (more_bytes low) rest ≡ p.more = ap (take (more_bytes low)) (sym firsts.1) ∙ take_at p.more x (more_bytes low) (p.parts.long ∙ ap more_bytes lows) in
    record {
      same_major = omega (arith, firsts.0, fits);
      is_said = sym p.parts.again ∙ ap (λ (l : ℕ). said_argument l p.more) lows ∙ ap (said_argument low) (sym more);
    }

-- a head is not empty
pub head_not_empty : (major n : ℕ) (x : List ℕ) → n < 2 ^ 64 → head major n ++ x ≡ [] → ⊥
head_not_empty major n x ln e =
    let p = parts_of major n ln in
    nothing_first (32 * major + p.low) (p.more ++ x) (ap (λ (h : List ℕ). h ++ x) (sym p.parts.is) ∙ e)
  where
    nothing_first : (b : ℕ) (s : List ℕ) → b ∷ s ≡ [] → ⊥
    nothing_first b s f = cc
