-- What was appended, and the outputs that are still to come, are the whole.
use Rattle.std.proofs.Common.{◌≡◌, ◌++◌, drop, map}
use Rattle.serde_json.specs.View.{view}
use Rattle.tx.specs.View.{output_of}
use Rattle.describing.specs.Transactions.{json_of_output}
use Rattle.describing.proofs.transactions.outputs_json.Given as goal

abbrev pub invariant-loop-output : goal.invariant-loop-output
invariant-loop-output l =
    map view l.list.items ++ map json_of_output (map output_of (drop l.output-index l.outputs)) ≡ map json_of_output (map output_of l.outputs)
