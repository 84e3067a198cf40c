-- Addresses as text: the digits of their bytes (the address formats of Shelley). Which fault is told first is this
-- project's own.
use Rattle.std.specs.Prelude.{◌≡◌, ℕ, ◌/◌, ◌%◌, List, length, Option, Some, None, Result, Ok, Err, ◌==◌, if◌then◌else◌}
use Rattle.hex.specs.Hex.{encode_lower, decode_of, decode_pairs}
use Rattle.hex.specs.declared.error.FromHexError.{FromHexError}
use Rattle.hex.specs.declared.error.FromHexError.TheVariants as hex
use Rattle.model.specs.Transaction.{Address, address_bytes, IsAddress}
use Rattle.tx.specs.Reading.{address_of_bytes}
use Rattle.tx.specs.declared.address_fault.AddressFault.{AddressFault}
use Rattle.tx.specs.declared.address_fault.AddressFault.TheVariants.{OddDigits, WrongLength, NotADigit, OtherKind}

-- the text of an address: its bytes in lower case hexadecimal
abbrev pub address_text : Address → List ℕ
address_text address = encode_lower (address_bytes address)

-- the text's digits, of either case, are those of the address's bytes
pub record SpellsAddress (address : Address) (text : List ℕ) : Type 0 where
  pub is_address : IsAddress address
  pub digits : decode_of text ≡ Ok (address_bytes address)

-- ---- reading a text

-- the answer for pairs of digits, of which the first character that is no digit is told
abbrev pub from_pairs : Result (List ℕ) FromHexError → Result (List ℕ) AddressFault
from_pairs (Ok bytes) = Ok bytes
from_pairs (Err (hex.InvalidHexCharacter character index)) = Err (NotADigit character index)
from_pairs (Err hex.OddLength) = Err OddDigits
from_pairs (Err hex.InvalidStringLength) = Err OddDigits
from_pairs (Err hex.OutOfMemory) = Err OddDigits

-- the 33 bytes that hexadecimal text spells, in either case
abbrev pub bytes_of_text : List ℕ → Result (List ℕ) AddressFault
bytes_of_text text =
    if (length text % 2) == 1 then Err OddDigits
    else if (length text / 2) == 33 then from_pairs (decode_pairs 0 text)
    else Err (WrongLength (length text / 2))

-- the address that has these bytes, if one has
abbrev pub address_or_fault : Option Address → Result Address AddressFault
address_or_fault (Some address) = Ok address
address_or_fault None = Err OtherKind

abbrev pub address_with : Result (List ℕ) AddressFault → Result Address AddressFault
address_with (Ok bytes) = address_or_fault (address_of_bytes bytes)
address_with (Err fault) = Err fault

-- the address that a text spells, or the first fault of the text
abbrev pub address_of_text : List ℕ → Result Address AddressFault
address_of_text text = address_with (bytes_of_text text)
