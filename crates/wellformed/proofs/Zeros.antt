-- Where bytes stop being the tail of a head.
use Rattle.std.proofs.Common.{◌≡◌, ℕ, zero, suc, ◌+◌, ◌-◌, ◌<◌, ◌≤◌, List, [], ◌∷◌, ◌++◌, Bool, true, false, length, get_or, take, drop, refl, sym, ap, subst, ◌∙◌, append_assoc, arith, inl, inr}
use Rattle.std.specs.Prelude.{◌⊎◌, ◌↔◌, IsTrue}
use Rattle.std.proofs.lemmas.Bool.{cases_lt}
use Rattle.std.proofs.lemmas.List.{get_or_append_left, get_or_past, get_or-take, length-append, length-take, take-append-drop, take_more, drop_more}
use Rattle.cbor.proofs.ForCallers.{IsBytes}
use Rattle.wellformed.specs.Parts.{tail_of, IsTail, FindsTail}
use Rattle.wellformed.specs.Stops.{BeginsLonger, BeginsNone, StopsAtArgument}
use Rattle.wellformed.proofs.Heads.{IsWide, one_byte, in_one, in_first}

-- ---- bytes 255

-- so many bytes 255
tops : ℕ → List ℕ
tops zero = []
tops (suc n) = 255 ∷ tops n

length-tops : (n : ℕ) → length (tops n) ≡ n
unfolding tops
length-tops zero = refl
length-tops (suc n) = ap suc (length-tops n)

IsBytes-tops : (n : ℕ) → IsBytes (tops n)
unfolding tops
IsBytes-tops zero i = omega arith
IsBytes-tops (suc n) zero = omega arith
IsBytes-tops (suc n) (suc i) = IsBytes-tops n i

IsBytes-cons : (b : ℕ) (bytes : List ℕ) → b < 256 → IsBytes bytes → IsBytes (b ∷ bytes)
IsBytes-cons b bytes lt fits zero = lt
IsBytes-cons b bytes lt fits (suc i) = fits i

IsBytes-append : (xs ys : List ℕ) → IsBytes xs → IsBytes ys → IsBytes (xs ++ ys)
IsBytes-append [] ys p q = q
IsBytes-append (x ∷ xs) ys p q = IsBytes-cons x (xs ++ ys) (p 0) (IsBytes-append xs ys (λ i. p (suc i)) q)

pub IsBytes-take : (n : ℕ) (bytes : List ℕ) → IsBytes bytes → IsBytes (take n bytes)
IsBytes-take n bytes fits i =
    elim (cases_lt i n) [
      | inl lt ↦ rw (get_or-take n bytes i 0 lt) (fits i)
      | inr le ↦ rw (get_or_past (take n bytes) i 0 (omega (arith, length-take n bytes))) (omega arith)
    ]

-- ---- one byte

-- no byte is there
pub one_ends : (bytes : List ℕ) → length bytes ≡ 0 → BeginsLonger (IsTail 24) bytes
one_ends [] e =
    let t = in_one 255 (omega arith) (omega arith) in
    record { next = 255; rest = []; is_text = record { argument = 255; fits = omega arith; low_is = t.low_is; is = sym t.text_is } }
one_ends (b ∷ bytes) e = absurd (omega arith)

-- a byte below 24
pub one_stops : (b : ℕ) (bytes : List ℕ) → b < 24 → StopsAtArgument (IsTail 24) (b ∷ bytes) (length (b ∷ bytes))
one_stops b bytes lt =
    let t = in_one 255 (omega arith) (omega arith) in
    record {
      stops = record { front = []; byte = b; after = bytes; parts = refl; left_is = refl; none = no_text };
      top_may = record { rest = []; is_text = record { argument = 255; fits = omega arith; low_is = t.low_is; is = sym t.text_is } };
    }
  where
    first_same : (n : ℕ) (x y : List ℕ) → n ∷ x ≡ b ∷ y → n ≡ b
    first_same n x y e = cc

    no_text : BeginsNone (IsTail 24) ([] ++ b ∷ [])
    no_text text x y is e =
        let o = one_byte is.argument is.low_is in
        let n = is.argument in
        let same : n ∷ x ≡ b ∷ y = ap (λ (t : List ℕ). t ++ x) (sym (is.is ∙ o.is)) ∙ e in
        omega (arith, first_same n x y same, o.least)

-- a byte from 24 on
pub one_found : (b : ℕ) (rest : List ℕ) → 24 ≤ b → b < 256 → FindsTail 24 b (b ∷ rest) rest
one_found b rest le lt =
    let t = in_one b le lt in
    record { fits = omega arith; low_is = t.low_is; parts = ap (λ (x : List ℕ). x ++ rest) (sym t.text_is) }

-- no byte, where the low bits are the argument
pub none_found : (n : ℕ) (bytes : List ℕ) → n < 24 → FindsTail n n bytes bytes
none_found n bytes lt =
    let t = in_first n lt in
    record { fits = omega arith; low_is = t.low_is; parts = ap (λ (x : List ℕ). x ++ bytes) (sym t.text_is) }

-- ---- more bytes

-- what a test of the first bytes says
abbrev pub AreZeros : ℕ → List ℕ → Type 0
AreZeros upper bytes = (k : ℕ) → k ≤ upper → get_or bytes k 0 ≡ 0

pub zeros : (b : Bool) (upper : ℕ) (bytes : List ℕ) → (IsTrue b ↔ ((suc upper ≤ length bytes) × ((k : ℕ) → k < suc upper → get_or bytes k 0 ≡ 0))) → b ≡ true → (suc upper ≤ length bytes) × AreZeros upper bytes
zeros b upper bytes test e =
    let t = test.0 e in
    (t.0, λ k le. t.1 k (omega (arith, le)))

pub no_zeros : (b : Bool) (upper : ℕ) (bytes : List ℕ) → (IsTrue b ↔ ((suc upper ≤ length bytes) × ((k : ℕ) → k < suc upper → get_or bytes k 0 ≡ 0))) → b ≡ false → suc upper ≤ length bytes → AreZeros upper bytes → ⊥
no_zeros b upper bytes test e enough zeros =
    let t : b ≡ true = test.1 (enough, λ k lt. zeros k (omega (arith, lt))) in
    cc

-- one of the first bytes is not zero, or all are
pub some_or_none : (upper : ℕ) (bytes : List ℕ) → ((k : ℕ) × (k ≤ upper) × (0 < get_or bytes k 0)) ⊎ ((k : ℕ) → k ≤ upper → get_or bytes k 0 ≡ 0)
some_or_none zero bytes =
    elim (cases_lt 0 (get_or bytes 0 0)) [
      | inl some ↦ inl (0, omega arith, some)
      | inr none ↦ inr (λ k le. let z : k ≡ 0 = omega arith in rw z (omega arith))
    ]
some_or_none (suc upper) bytes =
    elim (some_or_none upper bytes) [
      | inl some ↦ inl (some.0, omega (arith, some.1), some.2)
      | inr zeros ↦ elim (cases_lt 0 (get_or bytes (suc upper) 0)) [
        | inl some ↦ inl (suc upper, omega arith, some)
        | inr none ↦ inr (λ k le. elim (cases_lt k (suc upper)) [
          | inl lt ↦ zeros k (omega (arith, lt))
          | inr ge ↦ let z : k ≡ suc upper = omega (arith, ge, le) in rw z (omega (arith, none))
        ])
      ]
    ]

-- the bytes that are there and as many bytes 255 as are wanting are a tail
filled : (low upper width : ℕ) (number : List ℕ → ℕ) → IsWide low upper width number → (bytes : List ℕ) → IsBytes bytes → length bytes < width → (k : ℕ) → k ≤ upper → 0 < get_or (bytes ++ 255 ∷ tops (width - length bytes - 1)) k 0 → IsTail low (bytes ++ 255 ∷ tops (width - length bytes - 1))
filled low upper width number wide bytes fits short k le some =
    let more = tops (width - length bytes - 1) in
    let all = bytes ++ 255 ∷ more in
    let len : length all ≡ width = omega (arith, length-append bytes (255 ∷ more), length-tops (width - length bytes - 1), short) in
    let t = wide.makes all len (IsBytes-append bytes (255 ∷ more) fits (IsBytes-cons 255 more (omega arith) (IsBytes-tops (width - length bytes - 1)))) k le some in
    record { argument = number all; fits = t.fits; low_is = t.low_is; is = t.is }

-- where fewer bytes than `suc upper` are there the byte behind them is not zero
top_behind : (bytes more : List ℕ) → 0 < get_or (bytes ++ 255 ∷ more) (length bytes) 0
top_behind [] more = omega arith
top_behind (b ∷ bytes) more = top_behind bytes more

-- the bytes end in the midst of a tail
pub wide_ends : (low upper width : ℕ) (number : List ℕ → ℕ) → IsWide low upper width number → (bytes : List ℕ) → IsBytes bytes → length bytes < width → (suc upper ≤ length bytes → ((k : ℕ) → k ≤ upper → get_or bytes k 0 ≡ 0) → ⊥) → BeginsLonger (IsTail low) bytes
wide_ends low upper width number wide bytes fits short not_zeros =
    let more = tops (width - length bytes - 1) in
    record {
      next = 255;
      rest = more;
      is_text = elim (cases_lt (length bytes) (suc upper)) [
        | inl few ↦ filled low upper width number wide bytes fits short (length bytes) (omega (arith, few)) (top_behind bytes more)
        | inr enough ↦ elim (some_or_none upper bytes) [
          | inl some ↦
              let le = some.1 in
              let inside : some.0 < length bytes = omega (arith, enough, le) in
              let same = get_or_append_left bytes (255 ∷ more) 0 some.0 inside in
              filled low upper width number wide bytes fits short some.0 some.1 (rw same some.2)
          | inr zeros ↦ absurd (not_zeros enough zeros)
        ]
      ];
    }

-- the first `suc upper` bytes are zero, so that the last of them may not stand there
pub wide_stops : (low upper width : ℕ) (number : List ℕ → ℕ) → IsWide low upper width number → (bytes : List ℕ) (left : ℕ) → IsBytes bytes → suc upper ≤ length bytes → left + upper ≡ length bytes → ((k : ℕ) → k ≤ upper → get_or bytes k 0 ≡ 0) → StopsAtArgument (IsTail low) bytes left
wide_stops low upper width number wide bytes left fits enough left_is zeros =
    let front = take upper bytes in
    let inside : upper < length bytes = omega arith in
    let front_len : length front ≡ upper = omega (arith, length-take upper bytes) in
    let longer = wide.longer in
    let short : length front < width = omega arith in
    let split : bytes ≡ front ++ get_or bytes upper 0 ∷ drop (upper + 1) bytes = sym (take-append-drop upper bytes) ∙ ap (λ (t : List ℕ). front ++ t) (drop_more bytes upper 0 inside) in
    record {
      stops = record {
        front = front;
        byte = get_or bytes upper 0;
        after = drop (upper + 1) bytes;
        parts = split;
        left_is = omega (arith, ap length split, length-append front (get_or bytes upper 0 ∷ drop (upper + 1) bytes));
        none = subst (BeginsNone (IsTail low)) (take_more bytes upper 0 inside) no_text;
      };
      top_may = record {
        rest = tops (width - length front - 1);
        is_text = subst (IsTail low) (sym (append_assoc front (255 ∷ []) (tops (width - length front - 1))))
            (filled low upper width number wide front (IsBytes-take upper bytes fits) short upper (omega arith) (subst (λ (i : ℕ). 0 < get_or (front ++ 255 ∷ tops (width - length front - 1)) i 0) front_len (top_behind front (tops (width - length front - 1)))));
      };
    }
  where
    no_text : BeginsNone (IsTail low) (take (upper + 1) bytes)
    no_text text x y is e =
        let n = is.argument in
        let long = wide.long n is.low_is in
        let longer = wide.longer in
        let taken : length (take (upper + 1) bytes) ≡ upper + 1 = omega (arith, length-take (upper + 1) bytes) in
        let same : tail_of n ++ x ≡ take (upper + 1) bytes ++ y = ap (λ (t : List ℕ). t ++ x) (sym is.is) ∙ e in
        wide.some n is.fits is.low_is (λ k le.
        let in_tail : k < length (tail_of n) = omega arith in
        let in_front : k < length (take (upper + 1) bytes) = omega arith in
        let in_take : k < upper + 1 = omega arith in
        sym (get_or_append_left (tail_of n) x 0 k in_tail) ∙ ap (λ (t : List ℕ). get_or t k 0) same ∙ get_or_append_left (take (upper + 1) bytes) y 0 k in_front ∙ get_or-take (upper + 1) bytes k 0 in_take ∙ zeros k le)

-- the bytes begin with a tail
pub wide_found : (low upper width : ℕ) (number : List ℕ → ℕ) → IsWide low upper width number → (bytes : List ℕ) → IsBytes bytes → width ≤ length bytes → (suc upper ≤ length bytes → ((k : ℕ) → k ≤ upper → get_or bytes k 0 ≡ 0) → ⊥) → FindsTail low (number (take width bytes)) bytes (drop width bytes)
wide_found low upper width number wide bytes fits long not_zeros =
    elim (some_or_none upper bytes) [
      | inl some ↦
          let le = some.1 in
          let longer = wide.longer in
          let inside : some.0 < width = omega arith in
          let same = get_or-take width bytes some.0 0 inside in
          let t = wide.makes (take width bytes) (omega (arith, length-take width bytes)) (IsBytes-take width bytes fits) some.0 le (rw same some.2) in
          record { fits = t.fits; low_is = t.low_is; parts = sym (take-append-drop width bytes) ∙ ap (λ (x : List ℕ). x ++ drop width bytes) t.is }
      | inr zeros ↦ absurd (not_zeros (omega (arith, wide.longer)) zeros)
    ]

-- the same of a number that was read from the bytes in front of others
pub wide_read : (low upper width : ℕ) (number : List ℕ → ℕ) → IsWide low upper width number → (bytes chunk rest : List ℕ) (n : ℕ) → IsBytes bytes → chunk ≡ take width bytes → rest ≡ drop width bytes → width ≤ length bytes → n ≡ number chunk → (suc upper ≤ length bytes → AreZeros upper bytes → ⊥) → FindsTail low n bytes rest
wide_read low upper width number wide bytes chunk rest n fits chunk_is rest_is long n_is not_zeros =
    let w = wide_found low upper width number wide bytes fits long not_zeros in
    let number_is : n ≡ number (take width bytes) = n_is ∙ ap number chunk_is in
    rw (number_is, rest_is) w
