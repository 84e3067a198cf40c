-- What a peer sends: blocks, one behind the other. This project's own format.
use Rattle.std.specs.Prelude.{◌≡◌, ℕ, ◌*◌, ◌<◌, ◌≤◌, nat_lt, if◌then◌else◌, List, [], ◌∷◌, ◌++◌, length, take, drop}
use Rattle.std.specs.Prelude.{Option, Some, None, IfSome, option_map}
use Rattle.std.specs.Prelude.{Result, Ok, Err}
use Rattle.std.specs.Int.{w32, from_be_bytes, to_be_bytes}
use Rattle.std.specs.Io.BufRead.{take_through, drop_through, ends_with_byte, strip_last}
use Rattle.hex.specs.Hex.{decode_of, encode_lower, IsBytes}
use Rattle.hex.specs.declared.error.FromHexError.{FromHexError}
use Rattle.peering.specs.declared.sent.Framing.{Framing}
use Rattle.peering.specs.declared.sent.Framing.TheVariants.{Lines, Binary}
use Rattle.peering.specs.declared.sent.Sent.{Sent}
use Rattle.peering.specs.declared.sent.Sent.TheVariants as sent

-- how many bytes a block has at most that is held
abbrev pub block_limit : ℕ
block_limit = 1048576

-- a block's bytes; or what is none; or what is too large to be held
pub data Message : Type 0 where
  block : List ℕ → Message
  malformed : Message
  too_large : Message

abbrev pub message_of : Sent → Message
message_of (sent.Block bytes) = block bytes.items
message_of sent.Malformed = malformed
message_of sent.TooLarge = too_large

-- ---- in lines

-- the bytes that digits spell, if they spell some
abbrev pub spelled : Result (List ℕ) FromHexError → Message
spelled (Ok bytes) = block bytes
spelled (Err fault) = malformed

-- hexadecimal digits, two for each byte
abbrev pub line_says : List ℕ → Message
line_says digits = if nat_lt (2 * block_limit) (length digits) then too_large else spelled (decode_of digits)

-- a line without the line feed that ends it, and without the carriage return before that
abbrev pub without_ending : List ℕ → List ℕ
without_ending line = if ends_with_byte 10 line then strip_last 13 (strip_last 10 line) else line

-- ---- behind their lengths

-- how many bytes the first four bytes of a text say, the highest byte first
abbrev pub length_in : List ℕ → ℕ
length_in text = from_be_bytes w32 (take 4 text)

-- a block of this length, with which the text begins that stands behind it
abbrev pub length_says : ℕ → List ℕ → Message
length_says len text =
    if nat_lt (length text) len then malformed else if nat_lt block_limit len then too_large else block (take len text)

-- ---- either way

-- the first message of a text, which is not empty
abbrev pub first_message : Framing → List ℕ → Message
first_message Lines text = line_says (without_ending (take_through 10 text))
first_message Binary text = if nat_lt (length text) 4 then malformed else length_says (length_in text) (drop 4 text)

-- what stands behind it
abbrev pub behind_first : Framing → List ℕ → List ℕ
behind_first Lines text = drop_through 10 text
behind_first Binary text = drop (length_in text) (drop 4 text)

-- THE FIRST MESSAGE OF WHAT WAS LEFT TO READ IS READ, and what follows it is left; or there is nothing
abbrev pub SendsNext : Framing → Option Sent → (old new : Option (List ℕ)) → Type 0
SendsNext framing None old new = IfSome old (λ text. (text ≡ []) × (new ≡ Some []))
SendsNext framing (Some sent) old new = IfSome old (λ text. (0 < length text)
    × (message_of sent ≡ first_message framing text) × (new ≡ Some (behind_first framing text)))

-- the same, behind a length
abbrev pub SendsBehind : (len : ℕ) → Sent → (old new : Option (List ℕ)) → Type 0
SendsBehind len sent old new = IfSome old (λ text. (message_of sent ≡ length_says len text)
    × (new ≡ Some (drop len text)))

-- ---- as blocks are sent

-- a block's bytes, as a peer sends them
abbrev pub as_sent : Framing → List ℕ → List ℕ
as_sent Lines bytes = encode_lower bytes ++ 10 ∷ []
as_sent Binary bytes = to_be_bytes w32 (length bytes) ++ bytes

-- A BLOCK IS READ AS IT WAS SENT, whatever follows it
abbrev pub ReadsBack : Framing → Option Sent → (old new : Option (List ℕ)) → Type 0
ReadsBack framing read old new = (bytes after : List ℕ) → length bytes ≤ block_limit → IsBytes bytes
    → old ≡ Some (as_sent framing bytes ++ after)
    → (option_map message_of read ≡ Some (block bytes)) × (new ≡ Some after)
