-- The 32 bytes of an identifier, from a slice and from hexadecimal text.
use Rattle.std.specs.Prelude.{ℕ, ◌/◌, ◌%◌, List, length, Result, Ok, Err, ◌==◌, if◌then◌else◌}
use Rattle.hex.specs.Hex.{decode_pairs}
use Rattle.hex.specs.declared.error.FromHexError.{FromHexError}
use Rattle.hex.specs.declared.error.FromHexError.TheVariants as hex
use Rattle.model.specs.Limits.{hash_size}
use Rattle.ident.specs.declared.fault.IdentFault.{IdentFault}
use Rattle.ident.specs.declared.fault.IdentFault.TheVariants.{WrongLength, OddDigits, NotADigit}

-- an answer, whose value is seen by a view of it
abbrev pub seen : {X Y E : Type 0} → (X → Y) → Result X E → Result Y E
seen view (Ok x) = Ok (view x)
seen view (Err e) = Err e

-- the bytes, if there are 32
abbrev pub sized : List ℕ → Result (List ℕ) IdentFault
sized bytes = if length bytes == hash_size then Ok bytes else Err (WrongLength (length bytes))

-- the answer for pairs of digits, of which the first character that is no digit is told
abbrev pub from_pairs : Result (List ℕ) FromHexError → Result (List ℕ) IdentFault
from_pairs (Ok bytes) = Ok bytes
from_pairs (Err (hex.InvalidHexCharacter character index)) = Err (NotADigit character index)
from_pairs (Err hex.OddLength) = Err OddDigits
from_pairs (Err hex.InvalidStringLength) = Err OddDigits
from_pairs (Err hex.OutOfMemory) = Err OddDigits

-- the 32 bytes that hexadecimal text spells, in either case
abbrev pub read_hex : List ℕ → Result (List ℕ) IdentFault
read_hex text =
    if (length text % 2) == 1 then Err OddDigits
    else if (length text / 2) == hash_size then from_pairs (decode_pairs 0 text)
    else Err (WrongLength (length text / 2))
