-- What was appended, and the inputs that are still to come, are the whole.
use Rattle.std.proofs.Common.{◌≡◌, ◌++◌, drop, map}
use Rattle.serde_json.specs.View.{view}
use Rattle.tx.specs.View.{input_of}
use Rattle.describing.specs.Transactions.{json_of_input}
use Rattle.describing.proofs.transactions.inputs_json.Given as goal

abbrev pub invariant-loop-input : goal.invariant-loop-input
invariant-loop-input l =
    map view l.list.items ++ map json_of_input (map input_of (drop l.input-index l.inputs)) ≡ map json_of_input (map input_of l.inputs)
