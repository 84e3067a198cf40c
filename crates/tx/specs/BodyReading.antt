-- Reading the body of a transaction from left to right.
use Rattle.std.specs.Prelude.{ℕ, List, [], Option, Some, None}
use Rattle.cbor.specs.Reading.{head_at}
use Rattle.cbor.specs.Shapes.{Reading, FieldsReading, as_at, field_at, optional_field_at, fields_at, as_fields_at}
use Rattle.cbor.specs.Shapes.{record_at}
use Rattle.model.specs.Value.{Mint}
use Rattle.model.specs.Transaction.{Input, Output}
use Rattle.value.specs.Reading.{mint_at}
use Rattle.tx.specs.Body.{Body}
use Rattle.tx.specs.Reading.{inputs_at, outputs_at}

-- what is minted where the entry is left out: nothing
abbrev pub or_nothing : Option Mint → Mint
or_nothing None = []
or_nothing (Some mint) = mint

-- what is minted, where it is not nothing
unfoldable pub minted_field_at : FieldsReading Mint
minted_field_at left bytes = as_fields_at or_nothing (optional_field_at 9 mint_at) left bytes

-- a body of these parts
abbrev pub body_with : List Input × (List Output × (ℕ × (Option ℕ × (Option ℕ × Mint)))) → Body
body_with parts =
    record {
      inputs = parts.0;
      outputs = parts.1.0;
      fee = parts.1.1.0;
      end = parts.1.1.1.0;
      start = parts.1.1.1.1.0;
      mint = parts.1.1.1.1.1;
    }

-- a body: a map of 0 inputs, 1 outputs, 2 fee, and maybe 3 end, 8 start, 9 what is minted
unfoldable pub body_at : Reading Body
body_at bytes =
    as_at body_with (record_at (
    fields_at (field_at 0 inputs_at) (fields_at (field_at 1 outputs_at) (fields_at (field_at 2 (head_at 0)) (
    fields_at (optional_field_at 3 (head_at 0)) (fields_at (optional_field_at 8 (head_at 0)) minted_field_at)
    )))
    )) bytes
