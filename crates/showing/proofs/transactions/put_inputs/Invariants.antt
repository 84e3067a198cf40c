-- What was appended, and the lines of the inputs that are still to come, are the whole.
use Rattle.std.proofs.Common.{◌≡◌, ◌++◌, drop, map}
use Rattle.std.specs.Prelude.{flat_map, string_bytes}
use Rattle.tx.specs.View.{input_of}
use Rattle.showing.specs.Transactions.{input_line}
use Rattle.showing.proofs.transactions.put_inputs.Given as goal

abbrev pub invariant-loop-input : goal.invariant-loop-input
invariant-loop-input l =
    string_bytes l.out ++ flat_map (input_line l.margin) (map input_of (drop l.input-index l.inputs))
    ≡ string_bytes l.initial.out ++ flat_map (input_line l.margin) (map input_of l.inputs)
