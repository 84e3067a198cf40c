-- Bytes as hexadecimal text, in which blanks may stand (this project's own).
use Rattle.std.specs.Prelude.{◌≡◌, ℕ, ◌+◌, ◌-◌, ◌%◌, ◌==◌, ◌||◌, not, Bool, List, length, filter, take_while, reverse}
use Rattle.std.specs.Prelude.{position, Option, Some, None, option_map}
use Rattle.hex.specs.Hex.{is_hex_digit}
use Rattle.telling.specs.declared.hex_text.HexFault.{HexFault}
use Rattle.telling.specs.declared.hex_text.HexFault.TheVariants.{NoDigit, OddDigit, OutOfMemory}

-- a space, a tab or a line feed
abbrev pub is_blank : ℕ → Bool
is_blank c = c == 32 || (c == 9 || c == 10)

-- neither a blank nor a digit
abbrev pub is_stray : ℕ → Bool
is_stray c = not (is_blank c || is_hex_digit c)

-- the text without its blanks
abbrev pub digits_of : List ℕ → List ℕ
digits_of text = filter (λ c. not (is_blank c)) text

-- the place of the first stray character, counted from 1
abbrev pub stray_place : List ℕ → Option ℕ
stray_place text = option_map (λ index. index + 1) (position is_stray text)

-- the place of the last character that isn't blank, counted from 1: how long the text is without the blanks at its end
abbrev pub last_place : List ℕ → ℕ
last_place text = length text - length (take_while is_blank (reverse text))

-- FAULT OF HEXADECIMAL TEXT
-- The first stray character; or where there is none, that there is an odd number of digits. Memory is wanted only for
-- text without a stray character.
abbrev pub IsHexFault : List ℕ → HexFault → Type 0
IsHexFault text (NoDigit place) = stray_place text ≡ Some place
IsHexFault text (OddDigit place) =
    (stray_place text ≡ None) × (length (digits_of text) % 2 ≡ 1) × (place ≡ last_place text)
IsHexFault text OutOfMemory = stray_place text ≡ None
