-- Places in a text, by line and column.
use Rattle.std.specs.Prelude.{ℕ, ◌+◌, ◌==◌, ◌&&◌, nat_le, nat_lt, Bool, if◌then◌else◌, List, [], ◌∷◌}

-- a line and a column, counted from 0
pub record Place : Type 0 where
  pub line : ℕ
  pub column : ℕ

-- the byte goes on with a character of UTF-8
abbrev pub goes_on : ℕ → Bool
goes_on byte = nat_le 128 byte && nat_lt byte 192

-- the place after one more byte: a line feed ends its line, and each character has a column
abbrev pub next_place : Place → ℕ → Place
next_place place byte =
    if byte == 10 then record { line = place.line + 1; column = 0 }
    else if goes_on byte then place
    else record { line = place.line; column = place.column + 1 }

abbrev pub place_from : Place → List ℕ → Place
place_from place [] = place
place_from place (byte ∷ bytes) = place_from (next_place place byte) bytes

-- the place after these bytes
abbrev pub place_after : List ℕ → Place
place_after bytes = place_from (record { line = 0; column = 0 }) bytes
