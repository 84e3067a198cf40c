-- The parts of the documents (this project's own shape): numbers, bytes, lists and objects.
use Rattle.std.specs.Prelude.{ℕ, suc, ◌^◌, ℤ, pos, negsuc, List, [], ◌∷◌, Option, Some, None, map, decimal, nat_lt}
use Rattle.std.specs.Prelude.{if◌then◌else◌}
use Rattle.std.specs.Fmt.{signed_decimal}
use Rattle.hex.specs.Hex.{encode_lower}
use Rattle.serde_json.specs.Data.{Data, null, number, string, array, object, unsigned, negative}
use Rattle.serde_json.specs.Data.{Members, no_members, member}
use Rattle.serde_json.specs.View.{items_of}

-- A number. Many readers of JSON hold each number as a double, which has each whole number up to 2 ^ 53 alone (RFC
-- 8259, section 6), so from there on it is a string of its decimal digits.
abbrev pub json_of_number : ℕ → Data
json_of_number n = if nat_lt n (2 ^ 53) then number (unsigned n) else string (decimal n)

-- a whole number: what holds of a number holds of its absolute value
abbrev pub json_of_whole : ℤ → Data
json_of_whole (pos n) = json_of_number n
json_of_whole (negsuc n) =
    if nat_lt (suc n) (2 ^ 53) then number (negative (negsuc n)) else string (signed_decimal (negsuc n))

-- a number, or `null` where none is given
abbrev pub json_of_given : Option ℕ → Data
json_of_given None = null
json_of_given (Some n) = json_of_number n

-- bytes, each in two lower case hexadecimal digits
abbrev pub json_of_bytes : List ℕ → Data
json_of_bytes bytes = string (encode_lower bytes)

-- bytes, or `null` where none are given
abbrev pub json_of_given_bytes : Option (List ℕ) → Data
json_of_given_bytes None = null
json_of_given_bytes (Some bytes) = json_of_bytes bytes

-- a list, in its order
abbrev pub json_list : {A : Type 0} → (json_of : A → Data) → List A → Data
json_list json_of xs = array (items_of (map json_of xs))

-- members, each a name and a value
abbrev pub members_from : List (List ℕ × Data) → Members
members_from [] = no_members
members_from (m ∷ ms) = member m.0 m.1 (members_from ms)

-- an object of these members, which are written in the order of their names
abbrev pub object_of : List (List ℕ × Data) → Data
object_of ms = object (members_from ms)
