-- Parts of a transaction of which each has a text by itself.
use Rattle.model.specs.Cbor.{HasText}
use Rattle.model.specs.Script.{Script, item_of_script, IsScript}
use Rattle.model.specs.Transaction.{Input, Output, KeyWitness, item_of_input, item_of_output, item_of_witness}
use Rattle.model.specs.Transaction.{IsInput, IsOutput, IsKeyWitness}

pub record IsSaidInput (input : Input) : Type 0 where
  pub is_input : IsInput input
  pub has_text : HasText (item_of_input input)

pub record IsSaidOutput (output : Output) : Type 0 where
  pub is_output : IsOutput output
  pub has_text : HasText (item_of_output output)

pub record IsSaidWitness (witness : KeyWitness) : Type 0 where
  pub is_witness : IsKeyWitness witness
  pub has_text : HasText (item_of_witness witness)

pub record IsSaidScript (script : Script) : Type 0 where
  pub is_script : IsScript script
  pub has_text : HasText (item_of_script script)
