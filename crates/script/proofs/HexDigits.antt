-- Hexadecimal digits of whole bytes, before they are read.
use Rattle.std.proofs.Common.{◌≡◌, ◌≢◌, ℕ, ◌*◌, ◌/◌, ◌%◌, Bool, true, false, cond, nat_eq, List, [], ◌∷◌, length, Some, None, unwrap_or, Result, Ok, Err, refl, ap, arith}
use Rattle.std.proofs.lemmas.Bool.Decides.{nat_tests}
use Rattle.std.specs.Result.{result_ok}
use Rattle.std.specs.Prelude.{IsSome}
use Rattle.std.specs.List.{list_all}
use Rattle.std.proofs.lemmas.List.Sums.{list_all-from_AllPass, AllPass-from_list_all}
use Rattle.hex.specs.Hex.{is_hex_digit, decode_of, decode_sized}
use Rattle.hex.specs.declared.error.FromHexError.{FromHexError}
use Rattle.hex.proofs.HexLemmas.{decode_of-odd, decode_of-ok, decode_of-digits, decode_sized-twice, decode_sized-other}
use Rattle.script.specs.Line.{decoded, digits_bytes, said_bytes}

-- an odd number of digits says no bytes
pub no_odd : (digits : List ℕ) → length digits % 2 ≡ 1 → digits_bytes digits ≡ None
no_odd [] odd = refl
no_odd (d ∷ ds) odd = ap decoded (decode_of-odd (d ∷ ds) odd)

no_bytes : (r : Result (List ℕ) FromHexError) → ((bytes : List ℕ) → r ≡ Ok bytes → ⊥) → decoded r ≡ None
no_bytes (Ok bytes) none = absurd (none bytes refl)
no_bytes (Err e) none = refl

-- nor do other characters
pub no_other : (digits : List ℕ) → list_all is_hex_digit digits ≡ false → digits_bytes digits ≡ None
no_other [] other = refl
no_other (d ∷ ds) other = no_bytes (decode_of (d ∷ ds)) (λ bytes is. let all = list_all-from_AllPass is_hex_digit (d ∷ ds) (decode_of-ok (d ∷ ds) bytes is).1 in cc)

-- an even number of digits, one at least, does
pub some_bytes : (digits : List ℕ) → digits ≢ [] → length digits % 2 ≡ 0 → list_all is_hex_digit digits ≡ true → digits_bytes digits ≡ Some (said_bytes digits)
some_bytes [] some even all = absurd (some refl)
some_bytes (d ∷ ds) some even all =
    let bytes = decode_of-digits (d ∷ ds) even (AllPass-from_list_all is_hex_digit (d ∷ ds) all) in
    rw bytes.1 refl

-- the bytes that are decoded are those that are said
pub decoded_is : (digits bytes : List ℕ) → IsSome (digits_bytes digits) → decode_of digits ≡ Ok bytes → bytes ≡ said_bytes digits
decoded_is [] bytes says is = cc
decoded_is (d ∷ ds) bytes says is = rw is refl

-- digits that say some bytes, and their number
said_so : (digits : List ℕ) → IsSome (digits_bytes digits) → decode_of digits ≡ Ok (said_bytes digits)
said_so [] says = cc
said_so (d ∷ ds) says = some (decode_of (d ∷ ds)) says
  where
    some : (r : Result (List ℕ) FromHexError) → IsSome (decoded r) → r ≡ Ok (unwrap_or (decoded r) [])
    some (Ok bytes) says = refl
    some (Err e) says = cc

key_if : (digits bytes : List ℕ) (b : Bool) → nat_eq (length bytes) 32 ≡ b → decode_of digits ≡ Ok bytes → length digits ≡ 2 * length bytes → result_ok (decode_sized digits 32) ≡ cond b (Some bytes) None
key_if digits bytes true is says long =
    let size : length digits ≡ 2 * 32 = grind (arith, nat_tests) in
    rw (decode_sized-twice digits 32 size, says) refl
key_if digits bytes false is says long =
    let even : length digits % 2 ≡ 0 = omega arith in
    let other : length digits / 2 ≡ 32 → ⊥ = λ half. grind (arith, nat_tests) in
    rw (decode_sized-other digits 32 even other) refl

-- the 32 bytes that digits say, where they say that many
pub key_said : (digits : List ℕ) → IsSome (digits_bytes digits) → result_ok (decode_sized digits 32) ≡ cond (nat_eq (length (said_bytes digits)) 32) (Some (said_bytes digits)) None
key_said digits says =
    let is = said_so digits says in
    key_if digits (said_bytes digits) (nat_eq (length (said_bytes digits)) 32) refl is (decode_of-ok digits (said_bytes digits) is).2
