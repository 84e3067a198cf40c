-- What is read of a block is what was sent.
use Rattle.std.proofs.Common.{◌≡◌, ◌≢◌, ℕ, ◌+◌, ◌-◌, ◌*◌, ◌<◌, ◌≤◌, Bool, true, false, cond, nat_lt, List, [], ◌∷◌, ◌++◌, All, Option, None, Some, Result, Ok, Err, IfOk, length, take, drop, slice_index, refl, sym, ap, ◌∙◌, arith, append_assoc, length-append}
use Rattle.std.proofs.lemmas.Bool.{false≢true}
use Rattle.std.proofs.lemmas.Bool.Decides.{nat_tests}
use Rattle.std.proofs.lemmas.List.{get_or-append-add}
use Rattle.std.proofs.lemmas.Nat.{from_be_bytes-to_be_bytes_4}
use Rattle.std.proofs.lemmas.Option.{none-some, same_Some}
use Rattle.std.proofs.BufReadLemmas.{take_through-append, drop_through-append}
use Rattle.std.specs.Int.{w32, from_be_bytes, to_be_bytes}
use Rattle.std.specs.Io.BufRead.{take_through, drop_through, ends_with_byte, strip_last}
use Rattle.hex.specs.Hex.{decode_of, encode_lower, lower_digits, is_hex_digit, IsBytes}
use Rattle.hex.proofs.HexLemmas.{decode_of-encode_lower, decode_of-ok, length-encode_with}
use Rattle.peering.specs.declared.sent.Framing.{Framing}
use Rattle.peering.specs.declared.sent.Framing.TheVariants.{Lines, Binary}
use Rattle.peering.specs.declared.sent.Sent.{Sent}
use Rattle.peering.specs.Sending.{block, block_limit, line_says, without_ending, length_in, length_says, first_message, behind_first, as_sent, SendsNext, ReadsBack}
use Rattle.peering.proofs.StreamLaws.{first_of_two}

-- ---- the ends of texts

-- a text that ends with a byte, and without it
ends_so : (byte : ℕ) (xs : List ℕ) → ends_with_byte byte (xs ++ byte ∷ []) ≡ true
ends_so byte xs =
    let long : length (xs ++ byte ∷ []) ≡ length xs + 1 = length-append xs (byte ∷ []) in
    let place : length (xs ++ byte ∷ []) - 1 ≡ length xs + 0 = omega (arith, long) in
    let last : slice_index (xs ++ byte ∷ []) (length (xs ++ byte ∷ []) - 1) ≡ byte =
    ap (slice_index (xs ++ byte ∷ [])) place ∙ get_or-append-add xs (byte ∷ []) 0 0 in
    let some : 0 < length (xs ++ byte ∷ []) = omega (arith, long) in
    grind (arith, nat_tests)

stripped : (byte : ℕ) (xs : List ℕ) → strip_last byte (xs ++ byte ∷ []) ≡ xs
stripped byte xs =
    let long : length (xs ++ byte ∷ []) ≡ length xs + 1 = length-append xs (byte ∷ []) in
    let place : length (xs ++ byte ∷ []) - 1 ≡ length xs = omega (arith, long) in
    rw (ends_so byte xs) (ap (λ (n : ℕ). take n (xs ++ byte ∷ [])) place ∙ (first_of_two xs (byte ∷ []) (length xs) refl).0)

-- one without the byte doesn't end with it
ends_otherwise : (byte : ℕ) (xs : List ℕ) → All (λ b. b ≢ byte) xs → ends_with_byte byte xs ≡ false
ends_otherwise byte [] none = refl
ends_otherwise byte (x ∷ xs) none =
    let other : slice_index (x ∷ xs) (length (x ∷ xs) - 1) ≢ byte = none (length (x ∷ xs) - 1) 0 (omega arith) in
    grind (arith, nat_tests)

-- ---- in lines

bare_line : (digits : List ℕ) → All (λ b. b ≢ 13) digits → without_ending (digits ++ 10 ∷ []) ≡ digits
bare_line digits no_return =
    let same : strip_last 13 digits ≡ digits = rw (ends_otherwise 13 digits no_return) refl in
    let both : strip_last 13 (strip_last 10 (digits ++ 10 ∷ [])) ≡ digits = ap (strip_last 13) (stripped 10 digits) ∙ same in
    let if_ended : Bool → List ℕ = λ b. cond b (strip_last 13 (strip_last 10 (digits ++ 10 ∷ []))) (digits ++ 10 ∷ []) in
    ap if_ended (ends_so 10 digits) ∙ both

digit_is_none : (byte : ℕ) → is_hex_digit byte ≡ false → (text bytes : List ℕ) → decode_of text ≡ Ok bytes → All (λ b. b ≢ byte) text
digit_is_none byte never text bytes is = λ k d below e.
    false≢true (sym never ∙ ap is_hex_digit (sym e) ∙ (decode_of-ok text bytes is).1 k d below)

line_back : (bytes after : List ℕ) → length bytes ≤ block_limit → IsBytes bytes
    → (first_message Lines (as_sent Lines bytes ++ after) ≡ block bytes) × (behind_first Lines (as_sent Lines bytes ++ after) ≡ after)
line_back bytes after few are =
    let digits = encode_lower bytes in
    let decoded = decode_of-encode_lower bytes are in
    let no_feed : All (λ b. b ≢ 10) digits = digit_is_none 10 refl digits bytes decoded in
    let no_return : All (λ b. b ≢ 13) digits = digit_is_none 13 refl digits bytes decoded in
    let split : as_sent Lines bytes ++ after ≡ digits ++ (10 ∷ after) = append_assoc digits (10 ∷ []) after in
    let line : take_through 10 (as_sent Lines bytes ++ after) ≡ digits ++ 10 ∷ [] = ap (take_through 10) split ∙ take_through-append 10 digits (10 ∷ after) no_feed in
    let rest : drop_through 10 (as_sent Lines bytes ++ after) ≡ after = ap (drop_through 10) split ∙ drop_through-append 10 digits (10 ∷ after) no_feed in
    let fits : nat_lt (2 * block_limit) (length digits) ≡ false = let long = length-encode_with lower_digits bytes in grind (arith, nat_tests) in
    let says : line_says digits ≡ block bytes = rw (fits, decoded) refl in
    (ap (λ (l : List ℕ). line_says (without_ending l)) line ∙ ap line_says (bare_line digits no_return) ∙ says, rest)

-- ---- behind their lengths

length_back : (bytes after : List ℕ) → length bytes ≤ block_limit
    → (first_message Binary (as_sent Binary bytes ++ after) ≡ block bytes) × (behind_first Binary (as_sent Binary bytes ++ after) ≡ after)
length_back bytes after few =
    let head = to_be_bytes w32 (length bytes) in
    let text = as_sent Binary bytes ++ after in
    let behind = bytes ++ after in
    let split : text ≡ head ++ behind = append_assoc head bytes after in
    let apart = first_of_two head behind 4 refl in
    let first : take 4 text ≡ head = ap (take 4) split ∙ apart.0 in
    let next : drop 4 text ≡ behind = ap (drop 4) split ∙ apart.1 in
    let len : length_in text ≡ length bytes = ap (from_be_bytes w32) first ∙ from_be_bytes-to_be_bytes_4 (length bytes) (omega arith) in
    let long : nat_lt (length text) 4 ≡ false = let four : length head ≡ 4 = refl in let whole = ap length split ∙ length-append head behind in grind (arith, nat_tests) in
    let whole : nat_lt (length behind) (length bytes) ≡ false = let joined = length-append bytes after in grind (arith, nat_tests) in
    let fits : nat_lt block_limit (length bytes) ≡ false = grind (arith, nat_tests) in
    let parts = first_of_two bytes after (length bytes) refl in
    let says : length_says (length bytes) behind ≡ block bytes = rw (whole, fits) (ap block parts.0) in (
      rw (long, len, next) says,
      rw (len, next) parts.1,
    )

-- ---- either way

some_sent : (framing : Framing) (bytes after : List ℕ) → as_sent framing bytes ++ after ≡ [] → ⊥
some_sent Lines bytes after none =
    let long = length-append (encode_lower bytes ++ 10 ∷ []) after in
    let more = length-append (encode_lower bytes) (10 ∷ []) in
    absurd (omega (arith, ap length none))
some_sent Binary bytes after none = absurd (omega (arith, ap length none))

back : (framing : Framing) (bytes after : List ℕ) → length bytes ≤ block_limit → IsBytes bytes
    → (first_message framing (as_sent framing bytes ++ after) ≡ block bytes) × (behind_first framing (as_sent framing bytes ++ after) ≡ after)
back Lines bytes after few are = line_back bytes after few are
back Binary bytes after few are = length_back bytes after few

pub reads_back : (framing : Framing) (read : Option Sent) (old new : Option (List ℕ)) → SendsNext framing read old new → ReadsBack framing read old new
reads_back framing read None new sends = λ bytes after few are is. absurd (none-some _ is)
reads_back framing None (Some text) new sends = λ bytes after few are is.
    absurd (some_sent framing bytes after (sym (same_Some _ _ is) ∙ sends.0))
reads_back framing (Some sent) (Some text) new sends = λ bytes after few are is.
    let same : text ≡ as_sent framing bytes ++ after = same_Some _ _ is in
    let both = back framing bytes after few are in
    (ap Some (sends.1 ∙ ap (first_message framing) same ∙ both.0), sends.2 ∙ ap Some (ap (behind_first framing) same ∙ both.1))

pub result_back : {E : Type 0} (framing : Framing) (r : Result (Option Sent) E) (old new : Option (List ℕ)) → IfOk r (λ read. SendsNext framing read old new) → IfOk r (λ read. ReadsBack framing read old new)
result_back framing (Err e) old new sends = tt
result_back framing (Ok read) old new sends = reads_back framing read old new sends
