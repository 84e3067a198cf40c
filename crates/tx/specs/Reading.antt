-- Reading the parts of a transaction from left to right: each reading gives what stands first and the bytes after it,
-- or None where no such part stands there.
use Rattle.std.specs.Prelude.{ℕ, ◌/◌, ◌%◌, List, [], ◌∷◌, length, Option, Some, None, nat_le, ◌==◌, if◌then◌else◌}
use Rattle.cbor.specs.Reading.{◌>>=◌, fixed_at}
use Rattle.cbor.specs.Shapes.{Reading, made_at, such_at, as_at, bounded_at, both_at, array_at, list_array_at}
use Rattle.cbor.specs.Shapes.{nonempty_at}
use Rattle.model.specs.Limits.{hash_size, signature_size, output_limit}
use Rattle.model.specs.Value.{Value}
use Rattle.model.specs.Transaction.{Credential, KeyHash, ScriptHash, Address, Input, Output, KeyWitness}
use Rattle.model.specs.Transaction.{input_cmp, witness_cmp}
use Rattle.value.specs.Reading.{value_at}
use Rattle.tx.specs.Rising.{rises_by}

-- ---- inputs

-- an input of these parts
abbrev pub input_with : List ℕ × ℕ → Input
input_with parts = record { transaction = parts.0; index = parts.1 }

-- an input: an array of the transaction's identifier and the index
unfoldable pub input_at : Reading Input
input_at bytes = as_at input_with (array_at 2 (both_at (fixed_at hash_size) (bounded_at output_limit))) bytes

-- inputs that rise strictly
unfoldable pub inputs_at : Reading (List Input)
inputs_at bytes = such_at (rises_by input_cmp) (list_array_at input_at) bytes

-- ---- outputs

-- the credential of an address of this kind
abbrev pub payment_of_kind : ℕ → List ℕ → Option Credential
payment_of_kind kind hash =
    if kind == 6 then Some (KeyHash hash)
    else if kind == 7 then Some (ScriptHash hash)
    else None

-- the address that has these bytes, which are 33
unfoldable pub address_of_bytes : List ℕ → Option Address
address_of_bytes [] = None
address_of_bytes (first ∷ hash) = do
  payment ← payment_of_kind (first / 16) hash
  Some (record { network = first % 16; payment = payment })

-- an address: a byte string
unfoldable pub address_at : Reading Address
address_at bytes = made_at address_of_bytes (fixed_at 33) bytes

-- an output of these parts
abbrev pub output_with : Address × Value → Output
output_with parts = record { address = parts.0; value = parts.1 }

-- an output: an array of its address and its value
unfoldable pub output_at : Reading Output
output_at bytes = as_at output_with (array_at 2 (both_at address_at value_at)) bytes

-- outputs, not too many
unfoldable pub outputs_at : Reading (List Output)
outputs_at bytes = such_at (λ outputs. nat_le (length outputs) output_limit) (list_array_at output_at) bytes

-- ---- signatures

-- a signature of these parts
abbrev pub witness_with : List ℕ × List ℕ → KeyWitness
witness_with parts = record { key = parts.0; signature = parts.1 }

-- a signature: an array of the key and what it signed with
unfoldable pub witness_at : Reading KeyWitness
witness_at bytes = as_at witness_with (array_at 2 (both_at (fixed_at hash_size) (fixed_at signature_size))) bytes

-- signatures whose keys rise strictly, one at least
unfoldable pub signatures_at : Reading (List KeyWitness)
signatures_at bytes = such_at (rises_by witness_cmp) (nonempty_at (list_array_at witness_at)) bytes
