-- Reading a transaction from left to right: what stands first and the bytes after it, or None where none stands there.
use Rattle.std.specs.Prelude.{ℕ, ◌-◌, min, List, [], Option, Some, None}
use Rattle.cbor.specs.Reading.{◌>>=◌, null_at}
use Rattle.cbor.specs.Shapes.{Reading, FieldsReading, such_at, as_at, both_at, array_at, list_array_at, nonempty_at}
use Rattle.cbor.specs.Shapes.{optional_field_at, fields_at, as_fields_at, record_at}
use Rattle.model.specs.Limits.{nesting_limit}
use Rattle.model.specs.Script.{Script}
use Rattle.model.specs.Transaction.{KeyWitness, Transaction, script_cmp}
use Rattle.timelock.specs.Reading.{nested_script_at}
use Rattle.tx.specs.Rising.{rises_by}
use Rattle.tx.specs.Reading.{signatures_at}
use Rattle.tx.specs.Body.{Body, transaction_with}
use Rattle.tx.specs.BodyReading.{body_at}

-- what is read where an entry is left out: no member
abbrev pub or_none : {A : Type 0} → Option (List A) → List A
or_none None = []
or_none (Some xs) = xs

-- scripts whose hashes rise strictly, one at least, each of which nests at most so deep
unfoldable pub scripts_at : ℕ → Reading (List Script)
scripts_at depth bytes = such_at (rises_by script_cmp) (nonempty_at (list_array_at (nested_script_at depth))) bytes

-- signatures, where their entry stands next
unfoldable pub signatures_field_at : FieldsReading (List KeyWitness)
signatures_field_at left bytes = as_fields_at or_none (optional_field_at 0 signatures_at) left bytes

-- scripts, where their entry stands next
unfoldable pub scripts_field_at : ℕ → FieldsReading (List Script)
scripts_field_at depth left bytes = as_fields_at or_none (optional_field_at 1 (scripts_at depth)) left bytes

-- a witness set: a map of maybe 0 signatures, 1 scripts
unfoldable pub witnesses_at : ℕ → Reading (List KeyWitness × List Script)
witnesses_at depth bytes = record_at (fields_at signatures_field_at (scripts_field_at depth)) bytes

-- null
unfoldable pub nothing_more_at : Reading (Unit {0})
nothing_more_at bytes = do
  rest ← null_at bytes
  Some (tt, rest)

-- the transaction of a body and a witness set
abbrev pub transaction_of : Body × ((List KeyWitness × List Script) × Unit {0}) → Transaction
transaction_of parts = transaction_with parts.0 parts.1.0.0 parts.1.0.1

-- a transaction, each of whose scripts nests at most so deep: an array of its body, its witness set and null
unfoldable pub transaction_at : ℕ → Reading Transaction
transaction_at depth bytes =
    as_at transaction_of (array_at 3 (both_at body_at (both_at (witnesses_at depth) nothing_more_at))) bytes

-- a transaction none of whose scripts, which stand three deep in it, reaches deeper than this, nor deeper than any item
-- may; what else is in it nests at most eight deep, and is not held against a lower number
unfoldable pub nested_transaction_at : ℕ → Reading Transaction
nested_transaction_at depth bytes = transaction_at (min depth nesting_limit - 3) bytes
