-- Numbers of requests and replies: JSON numbers (RFC 8259, section 6), or strings of decimal digits, since many readers
-- of JSON hold each number as a double, which has each whole number up to 2 ^ 53 alone.
use Rattle.std.specs.Prelude.{ℕ, ◌+◌, ◌*◌, ◌-◌, ◌^◌, Bool, ◌&&◌, List, [], ◌∷◌, ◌++◌, Option, Some, None}
use Rattle.std.specs.Prelude.{option_and_then, nat_lt, nat_le, ◌==◌, if◌then◌else◌, codes, decimal}
use Rattle.serde_json.specs.Data.{Data}
use Rattle.serde_json.specs.Find.{as_str, as_number, as_u64}

abbrev pub is_digit : ℕ → Bool
is_digit b = nat_le 48 b && nat_le b 57

-- the number that digits say after those of a number, if it is below 2 ^ 64
abbrev pub number_from : ℕ → List ℕ → Option ℕ
number_from n [] = if nat_lt n (2 ^ 64) then Some n else None
number_from n (d ∷ ds) = if is_digit d then number_from (n * 10 + (d - 48)) ds else None

-- digits, one of them at least, with no zero in front of another digit
abbrev pub parse_number : List ℕ → Option ℕ
parse_number [] = None
parse_number (d ∷ []) = number_from 0 (d ∷ [])
parse_number (d ∷ e ∷ ds) = if d == 48 then None else number_from 0 (d ∷ e ∷ ds)

-- a string of digits, or else a number
abbrev pub number_as : Option (List ℕ) → Data → Option ℕ
number_as (Some digits) value = parse_number digits
number_as None value = option_and_then as_u64 (as_number value)

-- the whole number below 2 ^ 64 that a value is
abbrev pub number_of : Data → Option ℕ
number_of value = number_as (as_str value) value

-- how a number is spelled: digits, in quotes from 2 ^ 53 on
abbrev pub number_text : ℕ → List ℕ
number_text n = if nat_lt n (2 ^ 53) then decimal n else codes "\"" ++ decimal n ++ codes "\""
