-- A record of a log as JSON.
use Rattle.std.specs.Prelude.{◌≡◌, ℕ, List, [], ◌∷◌, length, Option, Some, None, codes, option_map}
use Rattle.serde_json.specs.Data.{Data}
use Rattle.serde_json.specs.Read.{read}
use Rattle.serde_json.specs.Written.{compact_text}
use Rattle.model.specs.Block.{Block, block_hash_of}
use Rattle.block.specs.Read.{IsRead, IsBadBytes}
use Rattle.block.specs.declared.fault.BadBytes.{BadBytes}
use Rattle.describing.specs.Parts.{json_of_number, json_of_given, json_of_given_bytes, object_of}

-- the block that the bytes are read as, or that they are none
abbrev pub IsFound : (bytes : List ℕ) → Option Block → Type 0
IsFound bytes (Some block) = IsRead block bytes
IsFound bytes None = (bad : BadBytes) × IsBadBytes bytes bad

abbrev pub number_of : Block → ℕ
number_of block = block.header.number

abbrev pub slot_of : Block → ℕ
slot_of block = block.header.slot

-- A RECORD AS JSON: which one it is, where it begins, in bytes, how many bytes its block has, and of the block its
-- hash, its number and its slot, or `null` three times where its bytes are no block
abbrev pub json_of_record : (number place size : ℕ) → Option Block → Data
json_of_record number place size found = object_of (
    (codes "hash", json_of_given_bytes (option_map block_hash_of found))
    ∷ (codes "number", json_of_given (option_map number_of found))
    ∷ (codes "place", json_of_number place)
    ∷ (codes "record", json_of_number number)
    ∷ (codes "size", json_of_number size)
    ∷ (codes "slot", json_of_given (option_map slot_of found)) ∷ [])

-- the record with these bytes is this JSON
pub record IsRecordAsJson (number place : ℕ) (bytes : List ℕ) (json : Data) : Type 0 where
  pub found : Option Block
  pub is_found : IsFound bytes found
  pub is : json ≡ json_of_record number place (length bytes) found

-- the text of such JSON, which is read as that again
pub record IsRecordText (number place : ℕ) (bytes text : List ℕ) : Type 0 where
  pub json : Data
  pub of_record : IsRecordAsJson number place bytes json
  pub text_is : text ≡ compact_text json
  pub reads_back : read text ≡ Some json
