-- Reading the parts of a state's text from left to right: each reading gives what stands first and the bytes after it,
-- or None where no such text stands there.
use Rattle.std.specs.Prelude.{ℕ, List, Option}
use Rattle.cbor.specs.Reading.{head_at, fixed_at}
use Rattle.cbor.specs.Shapes.{Reading, as_at, optional_at, both_at, array_at}
use Rattle.model.specs.Limits.{hash_size}
use Rattle.model.specs.Chain.{Tip}
use Rattle.model.specs.Transaction.{Input, Output}
use Rattle.tx.specs.Reading.{input_at, output_at}
use Rattle.snapshot.specs.Snapshot.{Front}

-- the hash of the last block, or null
unfoldable pub hash_at : Reading (Option (List ℕ))
hash_at bytes = optional_at (fixed_at hash_size) bytes

-- where a chain ends with these members
abbrev pub tip_with : ℕ × (ℕ × Option (List ℕ)) → Tip
tip_with members = record { number = members.0; slot = members.1.0; hash = members.1.1 }

-- where a chain ends: an array of the number, the slot and the hash
unfoldable pub tip_at : Reading Tip
tip_at bytes = as_at tip_with (array_at 3 (both_at (head_at 0) (both_at (head_at 0) hash_at))) bytes

-- what the first part says, of these members
abbrev pub front_with : Tip × (ℕ × (List ℕ × ℕ)) → Front
front_with members =
    record { tip = members.0; fees = members.1.0; digest = members.1.1.0; count = members.1.1.1 }

-- what the first part says: an array of where the chain ends, the fees, the digest and the number of outputs
unfoldable pub front_at : Reading Front
front_at bytes =
    as_at front_with (array_at 4 (both_at tip_at (both_at (head_at 0) (both_at (fixed_at hash_size) (head_at 0)))))
    bytes

-- an input and the output that it would spend: an array of both
unfoldable pub pair_at : Reading (Input × Output)
pair_at bytes = array_at 2 (both_at input_at output_at) bytes
