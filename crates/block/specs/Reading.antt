-- Reading a block from left to right: each reading gives what stands first and the bytes after it, or None
-- where no such part stands there.
use Rattle.std.specs.Prelude.{ℕ, List, length, Option, Some, None, ◌==◌, if◌then◌else◌}
use Rattle.cbor.specs.Reading.{◌>>=◌, fixed_at}
use Rattle.cbor.specs.Shapes.{Reading, as_at, bounded_at, optional_at, both_at, array_at, list_array_at}
use Rattle.model.specs.Limits.{transaction_nesting_limit, hash_size, number_limit}
use Rattle.model.specs.Transaction.{Transaction}
use Rattle.model.specs.Block.{Header, Block}
use Rattle.tx.specs.TransactionReading.{nested_transaction_at}

-- the hash of the block before, or null
unfoldable pub previous_at : Reading (Option (List ℕ))
previous_at bytes = optional_at (fixed_at hash_size) bytes

-- a header of these parts
abbrev pub header_with : ℕ × (ℕ × (Option (List ℕ) × List ℕ)) → Header
header_with parts = record { number = parts.0; slot = parts.1.0; previous = parts.1.1.0; body_hash = parts.1.1.1 }

-- a header: an array of its number, its slot, the hash of the block before and the hash of the body
unfoldable pub header_at : Reading Header
header_at bytes =
    as_at header_with (array_at 4 (
    both_at (bounded_at number_limit) (both_at (bounded_at number_limit) (both_at previous_at (fixed_at hash_size)))
    )) bytes

-- the transactions of a body, an array; in a block they may nest 62 deep, so that the block nests 64 deep
unfoldable pub transactions_at : Reading (List Transaction)
transactions_at bytes = list_array_at (nested_transaction_at transaction_nesting_limit) bytes

-- a block of these parts
abbrev pub block_with : Header × List Transaction → Block
block_with parts = record { header = parts.0; transactions = parts.1 }

-- a block: an array of its header and its transactions
unfoldable pub parts_at : Reading Block
parts_at bytes = as_at block_with (array_at 2 (both_at header_at transactions_at)) bytes

-- a block, which takes all of the bytes
unfoldable pub block_at : List ℕ → Option Block
block_at bytes = do
  block ← parts_at bytes
  if length block.1 == 0 then Some block.0 else None
