-- What was appended, and the lines of the outputs that are still to come, are the whole.
use Rattle.std.proofs.Common.{◌≡◌, ◌++◌, drop, map}
use Rattle.std.specs.Prelude.{string_bytes}
use Rattle.tx.specs.View.{output_of}
use Rattle.showing.specs.Transactions.{lines_of_outputs}
use Rattle.showing.proofs.transactions.put_outputs.Given as goal

abbrev pub invariant-loop-place : goal.invariant-loop-place
invariant-loop-place l =
    string_bytes l.out ++ lines_of_outputs l.margin l.place (map output_of (drop l.place l.outputs))
    ≡ string_bytes l.initial.out ++ lines_of_outputs l.margin 0 (map output_of l.outputs)
