-- The body of a transaction: the part whose text is hashed to its identifier (Shelley-MA, transaction bodies).
use Rattle.std.specs.Prelude.{ℕ, ◌≤◌, List, [], ◌∷◌, ◌++◌, length, map, Option}
use Rattle.std.specs.List.{AllByRecursion}
use Rattle.std.specs.List.Sorted.{IsStrictlySortedBy}
use Rattle.model.specs.Limits.{output_limit}
use Rattle.model.specs.Cbor.{Item, Unsigned, array_of}
use Rattle.model.specs.Script.{Script}
use Rattle.model.specs.Value.{Mint, item_of_assets, item_of_number, IsMint}
use Rattle.model.specs.Transaction.{Input, Output, KeyWitness, Transaction, item_of_input, item_of_output}
use Rattle.model.specs.Transaction.{optional_entry, unless_empty, item_of_body, IsInput, IsOutput, input_cmp}

pub record Body : Type 0 where
  pub inputs : List Input
  pub outputs : List Output
  pub fee : ℕ
  pub end : Option ℕ
  pub start : Option ℕ
  pub mint : Mint

-- the transaction of these parts
abbrev pub transaction_with : Body → List KeyWitness → List Script → Transaction
transaction_with body signatures scripts =
    record {
      inputs = body.inputs;
      outputs = body.outputs;
      fee = body.fee;
      end = body.end;
      start = body.start;
      mint = body.mint;
      signatures = signatures;
      scripts = scripts;
    }

-- the item of a body, on which signatures and scripts have no bearing
abbrev pub body_item : Body → Item
body_item body = item_of_body (transaction_with body [] [])

-- the entries that each body has
abbrev pub required_entries : Body → List (Item × Item)
required_entries body =
    (Unsigned 0, array_of (map item_of_input body.inputs)) ∷ (Unsigned 1, array_of (map item_of_output body.outputs))
    ∷ (Unsigned 2, Unsigned body.fee) ∷ []

-- the entries after them, which a body may leave out
abbrev pub optional_entries : Body → List (Item × Item)
optional_entries body =
    optional_entry 3 body.end
    ++ (optional_entry 8 body.start ++ unless_empty 9 (item_of_assets item_of_number) body.mint)

-- what a transaction asks of its body
pub record IsBody (body : Body) : Type 0 where
  pub inputs : AllByRecursion IsInput body.inputs
  pub inputs_rise : IsStrictlySortedBy input_cmp body.inputs
  pub outputs : AllByRecursion IsOutput body.outputs
  pub outputs_count : length body.outputs ≤ output_limit
  pub mint : IsMint body.mint
