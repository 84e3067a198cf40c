-- The bytes of a text that was read.
use Rattle.std.specs.Prelude.{◌≡◌, ℕ, Bool, true, false, List, Ok}
use Rattle.hex.specs.Hex.{decode_of}
use Rattle.telling.specs.HexText.{digits_of}

-- the bytes themselves were read, or their hexadecimal digits, between which blanks may stand
abbrev pub AreBytesOf : (binary : Bool) → (read bytes : List ℕ) → Type 0
AreBytesOf true read bytes = bytes ≡ read
AreBytesOf false read bytes = decode_of (digits_of read) ≡ Ok bytes
