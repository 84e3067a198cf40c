-- None of those that were looked at would spend an output.
use Rattle.std.specs.Prelude.{is_some}
use Rattle.model.specs.Utxo.{output_at}
use Rattle.tx.specs.View.{input_of}
use Rattle.watching.proofs.Choosing.{ArePartSeen}
use Rattle.watching.proofs.index.Index.has_some.Given as goal

abbrev pub invariant-loop-input : goal.invariant-loop-input
invariant-loop-input l = ArePartSeen (λ i. is_some (output_at l.self (input_of i))) l.inputs l.input-index
