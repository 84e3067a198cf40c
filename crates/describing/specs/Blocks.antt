-- A block as JSON.
use Rattle.std.specs.Prelude.{[], ◌∷◌, length, codes}
use Rattle.serde_json.specs.Data.{Data}
use Rattle.model.specs.Signature.{Verifies}
use Rattle.model.specs.Block.{Block, block_text, block_hash_of, body_size_of}
use Rattle.describing.specs.Parts.{json_of_number, json_of_bytes, json_of_given_bytes, json_list, object_of}
use Rattle.describing.specs.Transactions.{json_of_transaction}

-- A BLOCK AS JSON: its hash, its size in bytes, its header, in which the hash of the block before is `null` of a first
-- block, the size of its body in bytes, and its transactions
abbrev pub json_of_block : Verifies → Block → Data
json_of_block verifies block = object_of (
    (codes "body_hash", json_of_bytes block.header.body_hash)
    ∷ (codes "body_size", json_of_number (body_size_of block))
    ∷ (codes "hash", json_of_bytes (block_hash_of block))
    ∷ (codes "number", json_of_number block.header.number)
    ∷ (codes "previous", json_of_given_bytes block.header.previous)
    ∷ (codes "size", json_of_number (length (block_text block)))
    ∷ (codes "slot", json_of_number block.header.slot)
    ∷ (codes "transactions", json_list (json_of_transaction verifies) block.transactions) ∷ [])
