-- Hexadecimal text: what is refused and why, that the digits are text, and one more byte.
use Rattle.std.proofs.Common.{◌≡◌, ℕ, zero, suc, ◌+◌, ◌-◌, ◌/◌, ◌%◌, ◌^◌, ◌<◌, Bool, true, false, ◌&&◌, cond, eqb, ltb, List, [], ◌∷◌, ◌++◌, length, take, get_or, Result, Ok, Err, refl, sym, ap, ◌∙◌, arith, inl, inr, Bor}
use Rattle.std.specs.Prelude.{◌⊎◌, MatchResult, IsOk}
use Rattle.std.specs.Str.{IsAscii, IsUtf8}
use Rattle.std.specs.Fmt.{digits, digit_glyph, padded_integral, format_spec}
use Rattle.std.proofs.lemmas.Bool.{and_parts, cases_lt, eqb-true, eqb-false, ltb-true}
use Rattle.std.proofs.lemmas.Fmt.{hex_byte}
use Rattle.std.proofs.lemmas.List.{take_more}
use Rattle.std.proofs.lemmas.Str.Ascii.{IsAscii-nil, IsAscii-cons}
use Rattle.std.proofs.lemmas.Str.{IsUtf8-from_ascii}
use Rattle.hex.specs.Hex.{IsBytes, decode_pairs, decode_sized, encode_lower, encode_with, lower_digits}
use Rattle.hex.specs.declared.error.FromHexError.TheVariants.{InvalidStringLength, OutOfMemory}
use Rattle.hex.proofs.HexLemmas.{decode_of-encode_lower, decode_of-even, decode_pairs-err, IsAscii-encode_with, length-encode_with}
use Rattle.ident.specs.declared.fault.IdentFault.TheVariants.{WrongLength}
use Rattle.ident.specs.Bytes.{read_hex}

-- which side of an `if` was taken
chosen : {A : Type 0} (b : Bool) (x y z : A) → cond b x y ≡ z → ((b ≡ true) × (x ≡ z)) ⊎ ((b ≡ false) × (y ≡ z))
chosen true x y z e = inl (refl, e)
chosen false x y z e = inr (refl, e)

-- no memory is asked for
pub no_want_of_memory : (text : List ℕ) (n : ℕ) → decode_sized text n ≡ Err OutOfMemory → ⊥
no_want_of_memory text n e =
    elim (chosen (eqb (length text % 2) 1) _ _ _ e) [
      | inl odd ↦ cc odd.1
      | inr even ↦ elim (chosen (eqb (length text / 2) n) _ _ _ even.1) [
        | inl right ↦ let fault = decode_pairs-err 0 text OutOfMemory (let ne = eqb-false _ _ even.0 in omega arith) right.1 in cc fault.1
        | inr wrong ↦ cc wrong.1
      ]
    ]

-- a text of another length has an even number of digits, and spells another number of bytes
pub another_length : (text : List ℕ) (n : ℕ) → decode_sized text n ≡ Err InvalidStringLength → (eqb (length text % 2) 1 ≡ false) × (eqb (length text / 2) n ≡ false)
another_length text n e =
    elim (chosen (eqb (length text % 2) 1) _ _ _ e) [
      | inl odd ↦ cc odd.1
      | inr even ↦ elim (chosen (eqb (length text / 2) n) _ _ _ even.1) [
        | inl right ↦ let fault = decode_pairs-err 0 text InvalidStringLength (let ne = eqb-false _ _ even.0 in omega arith) right.1 in cc fault.1
        | inr wrong ↦ (even.0, wrong.0)
      ]
    ]

-- the fault of a text of another length
pub wrong_length : (text : List ℕ) → decode_sized text 32 ≡ Err InvalidStringLength → read_hex text ≡ Err (WrongLength (length text / 2))
wrong_length text e =
    let other = another_length text 32 e in
    rw (other.0, other.1) refl

-- whether each of them is below 128
abbrev all_ascii : List ℕ → Bool
all_ascii [] = true
all_ascii (b ∷ bs) = ltb b 128 && all_ascii bs

IsAscii-from_test : (bs : List ℕ) → all_ascii bs ≡ true → IsAscii bs
IsAscii-from_test [] e = IsAscii-nil
IsAscii-from_test (b ∷ bs) e =
    let parts = and_parts (ltb b 128) (all_ascii bs) e in
    IsAscii-cons b bs (ltb-true b 128 parts.0) (IsAscii-from_test bs parts.1)

-- the digits of bytes are text, so that reading them as text does not fail
pub read_as_text : {E : Type 0} (X : E → Type 0) (bytes text : List ℕ) (r : Result (Bor (List ℕ)) E) → text ≡ encode_lower bytes → MatchResult r (λ s. (s.now ≡ text) × IsUtf8 text) (λ e. ¬ (IsUtf8 text) × X e) → IsOk r
read_as_text X bytes text (Ok s) e read = refl
read_as_text X bytes text (Err fault) e read =
    absurd (read.0 (rw e (IsUtf8-from_ascii (encode_lower bytes) (IsAscii-encode_with lower_digits bytes (IsAscii-from_test lower_digits refl)))))

-- what an identifier is written as is read as that identifier
pub read_hex-encode_lower : (bytes : List ℕ) → length bytes ≡ 32 → IsBytes bytes → read_hex (encode_lower bytes) ≡ Ok bytes
read_hex-encode_lower bytes len fits =
    let digits : length (encode_lower bytes) ≡ 64 = omega (arith, length-encode_with lower_digits bytes) in
    let pairs : decode_pairs 0 (encode_lower bytes) ≡ Ok bytes = sym (decode_of-even (encode_lower bytes) (rw digits refl)) ∙ decode_of-encode_lower bytes fits in
    rw (digits, pairs) refl

-- ---- one more byte

-- the digits of the table below n are those that a format writes
abbrev are_glyphs : ℕ → Bool
are_glyphs zero = true
are_glyphs (suc n) = eqb (get_or lower_digits n 0) (digit_glyph false n) && are_glyphs n

glyph_below : (n d : ℕ) → are_glyphs n ≡ true → d < n → get_or lower_digits d 0 ≡ digit_glyph false d
glyph_below zero d h lt = absurd (omega arith)
glyph_below (suc n) d h lt =
    let parts = and_parts (eqb (get_or lower_digits n 0) (digit_glyph false n)) (are_glyphs n) h in
    elim (cases_lt d n) [
      | inl below ↦ glyph_below n d parts.1 below
      | inr top ↦
          let e : d ≡ n = omega arith in
          rw e (eqb-true (get_or lower_digits n 0) (digit_glyph false n) parts.0)
    ]

glyph : (d : ℕ) → d < 16 → get_or lower_digits d 0 ≡ digit_glyph false d
glyph d lt = glyph_below 16 d refl lt

encode_with-append : (t xs ys : List ℕ) → encode_with t (xs ++ ys) ≡ encode_with t xs ++ encode_with t ys
unfolding encode_with
encode_with-append t [] ys = refl
encode_with-append t (x ∷ xs) ys = ap (λ r. get_or t (x / 16) 0 ∷ get_or t (x % 16) 0 ∷ r) (encode_with-append t xs ys)

-- the two digits of one byte
digits_of_byte : (b : ℕ) → b < 256 → encode_lower (b ∷ []) ≡ padded_integral (format_spec 32 0 4 2 (2 ^ 64 - 1)) false [] (digits 16 false b)
unfolding encode_with
digits_of_byte b small =
    (λ k. glyph (b / 16) (omega arith) k ∷ glyph (b % 16) (omega arith) k ∷ []) ∙ sym (hex_byte false b small)

-- one more byte is two more digits
pub one_more_byte : (bytes : List ℕ) (i : ℕ) → i < length bytes → get_or bytes i 0 < 256 → encode_lower (take i bytes) ++ padded_integral (format_spec 32 0 4 2 (2 ^ 64 - 1)) false [] (digits 16 false (get_or bytes i 0)) ≡ encode_lower (take (i + 1) bytes)
one_more_byte bytes i inside small =
    ap (λ d. encode_lower (take i bytes) ++ d) (sym (digits_of_byte (get_or bytes i 0) small))
    ∙ sym (encode_with-append lower_digits (take i bytes) (get_or bytes i 0 ∷ []))
    ∙ ap encode_lower (sym (take_more bytes i 0 inside))

-- of no bytes nothing is written
pub no_digits : (bytes : List ℕ) → [] ≡ encode_lower (take 0 bytes)
unfolding encode_with
no_digits bytes = refl
