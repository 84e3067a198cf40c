-- The two laws of each reading: what is read is spelled so, and what is spelled so is read.
use Rattle.std.proofs.Common.{◌≡◌, ℕ, ◌+◌, ◌*◌, ◌/◌, ◌%◌, ◌^◌, ◌<◌, ◌≤◌, false, ltb, eqb, List, [], ◌∷◌, ◌++◌, length, get_or, take, drop, Some, refl, sym, ap, subst, ◌∙◌, append_assoc, arith, inl, inr}
use Rattle.std.specs.Int.{Width, w8, w16, w32, w64, byte_len, from_be_bytes, to_be_bytes}
use Rattle.std.proofs.lemmas.Bool.{cases_lt, ltb-false, ltb-true, le-ltb, lt-ltb, eqb-true, eq-eqb}
use Rattle.std.proofs.lemmas.List.{take_at, drop_at, take-append-drop, length-append, length-take}
use Rattle.std.proofs.lemmas.Nat.{be_bytes_2, be_bytes_4, be_bytes_8, from_be_bytes-to_be_bytes_2, from_be_bytes-to_be_bytes_4, from_be_bytes-to_be_bytes_8}
use Rattle.model.specs.Cbor.{head}
use Rattle.cbor.specs.Reading.{number_at, long_at, argument_at, head_at, taken_at, bytes_at, fixed_at, null_at}
use Rattle.cbor.proofs.Steps.{IsBytes, IsBytes-take, IsBytes-drop, IsBytes-rest, bind_some, guard-true, guard_none, guard_some, chosen, some_is, Takes, Takes-then}

-- ---- arguments in bytes of their own

-- A long form: `information` in the first byte announces the bytes `text n` of a number n, where n is from
-- `least` on and below `limit`.
record IsLongForm (information : ℕ) (w : Width) (least limit : ℕ) (text : ℕ → List ℕ) : Type 0 where
  len : (n : ℕ) → length (text n) ≡ byte_len w
  back : (bytes : List ℕ) → length bytes ≡ byte_len w → IsBytes bytes → text (from_be_bytes w bytes) ≡ bytes
  again : (n : ℕ) → n < limit → from_be_bytes w (text n) ≡ n
  below : (bytes : List ℕ) → IsBytes bytes → from_be_bytes w bytes < limit
  fits : limit ≤ 2 ^ 64
  spelled : (m n : ℕ) → least ≤ n → n < limit → head m n ≡ (32 * m + information) ∷ text n
  read : (bytes : List ℕ) → argument_at information bytes ≡ long_at w least bytes

one_byte_back : (bytes : List ℕ) → length bytes ≡ 1 → get_or bytes 0 0 ∷ [] ≡ bytes
one_byte_back [] e = absurd (omega arith)
one_byte_back (b ∷ []) e = refl
one_byte_back (b ∷ c ∷ bytes) e = absurd (omega arith)

spelled_8 : (m n : ℕ) → 24 ≤ n → n < 256 → head m n ≡ (32 * m + 24) ∷ n ∷ []
unfolding head
spelled_8 m n least below = rw (le-ltb n 24 least, lt-ltb n 256 below) refl

spelled_16 : (m n : ℕ) → 256 ≤ n → n < 65536 → head m n ≡ (32 * m + 25) ∷ to_be_bytes w16 n
unfolding head
spelled_16 m n least below = rw (le-ltb n 24 (omega arith), le-ltb n 256 least, lt-ltb n 65536 below) refl

spelled_32 : (m n : ℕ) → 65536 ≤ n → n < 4294967296 → head m n ≡ (32 * m + 26) ∷ to_be_bytes w32 n
unfolding head
spelled_32 m n least below = rw (le-ltb n 24 (omega arith), le-ltb n 256 (omega arith), le-ltb n 65536 least, lt-ltb n 4294967296 below) refl

spelled_64 : (m n : ℕ) → 4294967296 ≤ n → head m n ≡ (32 * m + 27) ∷ to_be_bytes w64 n
unfolding head
spelled_64 m n least = rw (le-ltb n 24 (omega arith), le-ltb n 256 (omega arith), le-ltb n 65536 (omega arith), le-ltb n 4294967296 least) refl

form_8 : IsLongForm 24 w8 24 (2 ^ 8) (λ n. n ∷ [])
unfolding argument_at
form_8 = record {
  len = λ n. refl;
  back = λ bytes len bytes_fit. one_byte_back bytes len;
  again = λ n lt. refl;
  below = λ bytes bytes_fit. bytes_fit 0;
  fits = omega arith;
  spelled = spelled_8;
  read = λ bytes. refl;
}

form_16 : IsLongForm 25 w16 256 (2 ^ 16) (to_be_bytes w16)
unfolding argument_at
form_16 = record {
  len = λ n. refl;
  back = λ bytes len bytes_fit. be_bytes_2 bytes _ len bytes_fit refl;
  again = from_be_bytes-to_be_bytes_2;
  below = λ bytes bytes_fit. omega (arith, bytes_fit 0, bytes_fit 1);
  fits = omega arith;
  spelled = spelled_16;
  read = λ bytes. refl;
}

form_32 : IsLongForm 26 w32 65536 (2 ^ 32) (to_be_bytes w32)
unfolding argument_at
form_32 = record {
  len = λ n. refl;
  back = λ bytes len bytes_fit. be_bytes_4 bytes _ len bytes_fit refl;
  again = from_be_bytes-to_be_bytes_4;
  below = λ bytes bytes_fit. omega (arith, bytes_fit 0, bytes_fit 1, bytes_fit 2, bytes_fit 3);
  fits = omega arith;
  spelled = spelled_32;
  read = λ bytes. refl;
}

form_64 : IsLongForm 27 w64 4294967296 (2 ^ 64) (to_be_bytes w64)
unfolding argument_at
form_64 = record {
  len = λ n. refl;
  back = λ bytes len bytes_fit. be_bytes_8 bytes _ len bytes_fit refl;
  again = from_be_bytes-to_be_bytes_8;
  below = λ bytes bytes_fit. omega (arith, bytes_fit 0, bytes_fit 1, bytes_fit 2, bytes_fit 3, bytes_fit 4, bytes_fit 5, bytes_fit 6, bytes_fit 7);
  fits = omega arith;
  spelled = λ m n least below. spelled_64 m n least;
  read = λ bytes. refl;
}

-- the first `count` bytes
pub taken_takes : (count : ℕ) (bytes text rest : List ℕ) → IsBytes bytes → taken_at count bytes ≡ Some (text, rest) → Takes bytes text rest × (length text ≡ count) × IsBytes text
taken_takes count bytes text rest fits e =
    let g = guard_none (ltb (length bytes) count) (Some (take count bytes, drop count bytes)) (text, rest) e in
    let long : count ≤ length bytes = ltb-false _ _ g.0 in
    subst (λ (p : List ℕ × List ℕ). Takes bytes p.0 p.1 × (length p.0 ≡ count) × IsBytes p.0) (some_is (take count bytes, drop count bytes) (text, rest) g.1)
    (record { parts = sym (take-append-drop count bytes); rest_fits = IsBytes-drop count bytes fits }, omega (arith, length-take count bytes), IsBytes-take count bytes fits)

pub taken_again : (count : ℕ) (text rest : List ℕ) → length text ≡ count → taken_at count (text ++ rest) ≡ Some (text, rest)
taken_again count text rest len =
    let long : ltb (length (text ++ rest)) count ≡ false = le-ltb _ _ (omega (arith, length-append text rest)) in
    rw (long, take_at text rest count len, drop_at text rest count len) refl

-- a long form that was read
long_takes : (m information : ℕ) (w : Width) (least limit : ℕ) (text : ℕ → List ℕ) (form : IsLongForm information w least limit text) (bytes : List ℕ) (n : ℕ) (rest : List ℕ) → IsBytes bytes → long_at w least bytes ≡ Some (n, rest) → Takes ((32 * m + information) ∷ bytes) (head m n) rest × (n < 2 ^ 64)
long_takes m information w least limit text form bytes n rest fits e =
    let a = bind_some (number_at w bytes) _ (n, rest) e in
    let g = guard_none (ltb (length bytes) (byte_len w)) (Some (from_be_bytes w (take (byte_len w) bytes), drop (byte_len w) bytes)) a.0 a.1 in
    let h = guard_none (ltb a.0.0 least) (Some (a.0.0, a.0.1)) (n, rest) a.2 in
    let pair = some_is (from_be_bytes w (take (byte_len w) bytes), drop (byte_len w) bytes) a.0 g.1 ∙ some_is (a.0.0, a.0.1) (n, rest) h.1 in
    let long : byte_len w ≤ length bytes = ltb-false _ _ g.0 in
    let front = take (byte_len w) bytes in
    let n-is : from_be_bytes w front ≡ n = ap (λ (p : ℕ × List ℕ). p.0) pair in
    let rest-is : drop (byte_len w) bytes ≡ rest = ap (λ (p : ℕ × List ℕ). p.1) pair in
    let front-fits = IsBytes-take (byte_len w) bytes fits in
    let lower : least ≤ n = subst (λ (k : ℕ). least ≤ k) (ap (λ (p : ℕ × List ℕ). p.0) (some_is (a.0.0, a.0.1) (n, rest) h.1)) (ltb-false _ _ h.0) in
    let upper : n < limit = subst (λ (k : ℕ). k < limit) n-is (form.below front front-fits) in
    let spelled : text n ≡ front = ap text (sym n-is) ∙ form.back front (omega (arith, length-take (byte_len w) bytes)) front-fits in
    let whole : bytes ≡ text n ++ rest = sym (take-append-drop (byte_len w) bytes) ∙ ap (λ (t : List ℕ). front ++ t) rest-is ∙ ap (λ (t : List ℕ). t ++ rest) (sym spelled) in
    (record { parts = ap (λ (t : List ℕ). (32 * m + information) ∷ t) whole ∙ ap (λ (t : List ℕ). t ++ rest) (sym (form.spelled m n lower upper)); rest_fits = subst IsBytes rest-is (IsBytes-drop (byte_len w) bytes fits) }, omega (arith, form.fits, upper))

-- a number in its long form, which is read
long_again : (m information : ℕ) (w : Width) (least limit : ℕ) (text : ℕ → List ℕ) (form : IsLongForm information w least limit text) (n : ℕ) (rest : List ℕ) → least ≤ n → n < limit → long_at w least (text n ++ rest) ≡ Some (n, rest)
long_again m information w least limit text form n rest lower upper =
    let len = form.len n in
    let long : ltb (length (text n ++ rest)) (byte_len w) ≡ false = le-ltb _ _ (omega (arith, length-append (text n) rest)) in
    rw (long, take_at (text n) rest (byte_len w) len, drop_at (text n) rest (byte_len w) len, form.again n upper, le-ltb n least lower) refl

-- ---- heads

-- a number below 24, which is its own information
direct_takes : (m : ℕ) (bytes : List ℕ) (n : ℕ) → IsBytes bytes → n < 24 → Takes ((32 * m + n) ∷ bytes) (head m n) bytes × (n < 2 ^ 64)
unfolding head
direct_takes m bytes n fits lt =
    (record { parts = rw (lt-ltb n 24 lt) refl; rest_fits = fits }, omega arith)

-- an argument that was read, after a first byte that announces it
argument_takes : (m information : ℕ) (bytes : List ℕ) (n : ℕ) (rest : List ℕ) → IsBytes bytes → argument_at information bytes ≡ Some (n, rest) → Takes ((32 * m + information) ∷ bytes) (head m n) rest × (n < 2 ^ 64)
unfolding argument_at
argument_takes m information bytes n rest fits e =
    let Taken : ℕ → Type 0 = λ i. Takes ((32 * m + i) ∷ bytes) (head m n) rest × (n < 2 ^ 64) in
    elim (chosen (ltb information 24) _ _ _ e) [
      | inl a ↦
          subst (λ (p : ℕ × List ℕ). Takes ((32 * m + information) ∷ bytes) (head m p.0) p.1 × (p.0 < 2 ^ 64)) (some_is (information, bytes) (n, rest) a.1)
          (direct_takes m bytes information fits (ltb-true _ _ a.0))
      | inr a ↦ elim (chosen (eqb information 24) _ _ _ a.1) [
        | inl b ↦ subst Taken (sym (eqb-true _ _ b.0)) (long_takes m 24 w8 24 (2 ^ 8) _ form_8 bytes n rest fits b.1)
        | inr b ↦ elim (chosen (eqb information 25) _ _ _ b.1) [
          | inl c ↦ subst Taken (sym (eqb-true _ _ c.0)) (long_takes m 25 w16 256 (2 ^ 16) _ form_16 bytes n rest fits c.1)
          | inr c ↦ elim (chosen (eqb information 26) _ _ _ c.1) [
            | inl d ↦ subst Taken (sym (eqb-true _ _ d.0)) (long_takes m 26 w32 65536 (2 ^ 32) _ form_32 bytes n rest fits d.1)
            | inr d ↦
                let g = guard_some (eqb information 27) _ _ d.1 in
                subst Taken (sym (eqb-true _ _ g.0)) (long_takes m 27 w64 4294967296 (2 ^ 64) _ form_64 bytes n rest fits g.1)
          ]
        ]
      ]
    ]

-- a head that was read
pub head_takes : (m : ℕ) (bytes : List ℕ) (n : ℕ) (rest : List ℕ) → IsBytes bytes → head_at m bytes ≡ Some (n, rest) → Takes bytes (head m n) rest × (n < 2 ^ 64)
unfolding head_at
head_takes m [] n rest fits e = absurd cc
head_takes m (first ∷ bytes) n rest fits e =
    let g = guard_some (eqb (first / 32) m) (argument_at (first % 32) bytes) (n, rest) e in
    let first-is : 32 * m + first % 32 ≡ first = omega (arith, eqb-true _ _ g.0) in
    subst (λ (b : ℕ). Takes (b ∷ bytes) (head m n) rest × (n < 2 ^ 64)) first-is
    (argument_takes m (first % 32) bytes n rest (IsBytes-rest first bytes fits) g.1)

-- a head in a long form, which is read
long_head_again : (m information : ℕ) (w : Width) (least limit : ℕ) (text : ℕ → List ℕ) (form : IsLongForm information w least limit text) (n : ℕ) (rest : List ℕ) → information < 32 → least ≤ n → n < limit → head_at m (head m n ++ rest) ≡ Some (n, rest)
unfolding head_at
long_head_again m information w least limit text form n rest low lower upper =
    let major-is : (32 * m + information) / 32 ≡ m = omega arith in
    let information-is : (32 * m + information) % 32 ≡ information = omega arith in
    rw (form.spelled m n lower upper, eq-eqb _ _ major-is, information-is, form.read (text n ++ rest)) (long_again m information w least limit text form n rest lower upper)

-- a number below 24, which is read
direct_again : (m n : ℕ) (rest : List ℕ) → n < 24 → head_at m (head m n ++ rest) ≡ Some (n, rest)
unfolding head head_at argument_at
direct_again m n rest lt =
    let major-is : (32 * m + n) / 32 ≡ m = omega arith in
    let information-is : (32 * m + n) % 32 ≡ n = omega arith in
    rw (lt-ltb n 24 lt, eq-eqb _ _ major-is, information-is, lt-ltb n 24 lt) refl

-- a head that was written is read, whatever follows it
pub head_again : (m n : ℕ) (rest : List ℕ) → n < 2 ^ 64 → head_at m (head m n ++ rest) ≡ Some (n, rest)
head_again m n rest lt =
    elim (cases_lt n 24) [
      | inl below ↦ direct_again m n rest below
      | inr from-24 ↦ elim (cases_lt n (2 ^ 8)) [
        | inl below ↦ long_head_again m 24 w8 24 (2 ^ 8) _ form_8 n rest (omega arith) from-24 below
        | inr from-8 ↦ elim (cases_lt n (2 ^ 16)) [
          | inl below ↦ long_head_again m 25 w16 256 (2 ^ 16) _ form_16 n rest (omega arith) from-8 below
          | inr from-16 ↦ elim (cases_lt n (2 ^ 32)) [
            | inl below ↦ long_head_again m 26 w32 65536 (2 ^ 32) _ form_32 n rest (omega arith) from-16 below
            | inr from-32 ↦ long_head_again m 27 w64 4294967296 (2 ^ 64) _ form_64 n rest (omega arith) from-32 lt
          ]
        ]
      ]
    ]

-- a head has 1 to 9 bytes
pub head-length : (m n : ℕ) → (0 < length (head m n)) × (length (head m n) ≤ 9)
unfolding head
head-length m n =
    elim (cases_lt n 24) [
      | inl below ↦ rw (lt-ltb n 24 below) (omega arith, omega arith)
      | inr from-24 ↦ elim (cases_lt n 256) [
        | inl below ↦ rw (spelled_8 m n from-24 below) (omega arith, omega arith)
        | inr from-8 ↦ elim (cases_lt n 65536) [
          | inl below ↦ rw (spelled_16 m n from-8 below) (omega arith, omega arith)
          | inr from-16 ↦ elim (cases_lt n 4294967296) [
            | inl below ↦ rw (spelled_32 m n from-16 below) (omega arith, omega arith)
            | inr from-32 ↦ rw (spelled_64 m n from-32) (omega arith, omega arith)
          ]
        ]
      ]
    ]

-- The first byte of a head: its major type, and in its low five bits nothing just where it announces nothing.
pub record BeginsHead (major n : ℕ) (text : List ℕ) : Type 0 where
  pub low : ℕ
  pub tail : List ℕ
  pub is : text ≡ (32 * major + low) ∷ tail
  pub below : low < 32
  pub none : n ≡ 0 → low ≡ 0
  pub back : low ≡ 0 → n ≡ 0

direct_head : (m n : ℕ) → n < 24 → head m n ≡ (32 * m + n) ∷ []
unfolding head
direct_head m n below = rw (lt-ltb n 24 below) refl

long_head : (m n low : ℕ) (tail : List ℕ) → 24 ≤ n → 24 ≤ low → low < 32 → head m n ≡ (32 * m + low) ∷ tail → BeginsHead m n (head m n)
long_head m n low tail long from below is = record { low = low; tail = tail; is = is; below = below; none = λ e. absurd (omega (arith, e, long)); back = λ e. absurd (omega (arith, e, from)) }

pub first_of : (m n : ℕ) → BeginsHead m n (head m n)
first_of m n =
    elim (cases_lt n 24) [
      | inl below ↦ record { low = n; tail = []; is = direct_head m n below; below = omega (arith, below); none = λ e. e; back = λ e. e }
      | inr from-24 ↦ elim (cases_lt n 256) [
        | inl below ↦ long_head m n 24 (n ∷ []) from-24 (omega arith) (omega arith) (spelled_8 m n from-24 below)
        | inr from-8 ↦ elim (cases_lt n 65536) [
          | inl below ↦ long_head m n 25 (to_be_bytes w16 n) from-24 (omega arith) (omega arith) (spelled_16 m n from-8 below)
          | inr from-16 ↦ elim (cases_lt n 4294967296) [
            | inl below ↦ long_head m n 26 (to_be_bytes w32 n) from-24 (omega arith) (omega arith) (spelled_32 m n from-16 below)
            | inr from-32 ↦ long_head m n 27 (to_be_bytes w64 n) from-24 (omega arith) (omega arith) (spelled_64 m n from-32)
          ]
        ]
      ]
    ]

-- ---- byte strings and null

-- a byte string that was read
pub bytes_takes : (bytes text rest : List ℕ) → IsBytes bytes → bytes_at bytes ≡ Some (text, rest) → Takes bytes (head 2 (length text) ++ text) rest × (length text < 2 ^ 64) × IsBytes text
unfolding bytes_at
bytes_takes bytes text rest fits e =
    let a = bind_some (head_at 2 bytes) _ (text, rest) e in
    let t = head_takes 2 bytes a.0.0 a.0.1 fits a.1 in
    let s = taken_takes a.0.0 a.0.1 text rest t.0.rest_fits a.2 in
    let both = Takes-then bytes (head 2 a.0.0) a.0.1 text rest t.0 s.0 in
    (subst (λ (k : ℕ). Takes bytes (head 2 k ++ text) rest) (sym s.1) both, omega (arith, s.1, t.1), s.2)

-- a byte string that was written is read
pub bytes_again : (text rest : List ℕ) → length text < 2 ^ 64 → bytes_at ((head 2 (length text) ++ text) ++ rest) ≡ Some (text, rest)
unfolding bytes_at
bytes_again text rest lt =
    ap bytes_at (append_assoc (head 2 (length text)) text rest) ∙ rw (head_again 2 (length text) (text ++ rest) lt) (taken_again (length text) text rest refl)

-- a byte string of exactly `count` bytes that was read
pub fixed_takes : (count : ℕ) (bytes text rest : List ℕ) → IsBytes bytes → fixed_at count bytes ≡ Some (text, rest) → Takes bytes (head 2 count ++ text) rest × (length text ≡ count) × IsBytes text
unfolding fixed_at
fixed_takes count bytes text rest fits e =
    let a = bind_some (bytes_at bytes) _ (text, rest) e in
    let g = guard-true (eqb (length a.0.0) count) _ (text, rest) a.2 in
    let t = bytes_takes bytes a.0.0 a.0.1 fits a.1 in
    let len = eqb-true _ _ g.0 in
    subst (λ (p : List ℕ × List ℕ). Takes bytes (head 2 count ++ p.0) p.1 × (length p.0 ≡ count) × IsBytes p.0) (some_is (a.0.0, a.0.1) (text, rest) g.1)
    (subst (λ (k : ℕ). Takes bytes (head 2 k ++ a.0.0) a.0.1) len t.0, len, t.2)

-- a byte string of exactly `count` bytes that was written is read
pub fixed_again : (count : ℕ) (text rest : List ℕ) → count < 2 ^ 64 → length text ≡ count → fixed_at count ((head 2 count ++ text) ++ rest) ≡ Some (text, rest)
unfolding fixed_at
fixed_again count text rest lt len =
    let read : bytes_at ((head 2 count ++ text) ++ rest) ≡ Some (text, rest) = subst (λ (k : ℕ). bytes_at ((head 2 k ++ text) ++ rest) ≡ Some (text, rest)) len (bytes_again text rest (omega arith)) in
    rw (read, eq-eqb _ _ len) refl

-- null that was read
pub null_takes : (bytes rest : List ℕ) → IsBytes bytes → null_at bytes ≡ Some rest → Takes bytes (head 7 22) rest
unfolding null_at
null_takes bytes rest fits e =
    let a = bind_some (head_at 7 bytes) _ rest e in
    let g = guard-true (eqb a.0.0 22) _ rest a.2 in
    let t = head_takes 7 bytes a.0.0 a.0.1 fits a.1 in
    subst (λ (r : List ℕ). Takes bytes (head 7 22) r) (some_is a.0.1 rest g.1) (subst (λ (n : ℕ). Takes bytes (head 7 n) a.0.1) (eqb-true _ _ g.0) t.0)

-- null that was written is read
pub null_again : (rest : List ℕ) → null_at (head 7 22 ++ rest) ≡ Some rest
unfolding null_at
null_again rest = rw (head_again 7 22 rest (omega arith)) refl
