-- Those that were seen are there.
use Rattle.std.specs.Prelude.{is_some}
use Rattle.model.specs.Utxo.{output_at}
use Rattle.tx.specs.View.{input_of}
use Rattle.utxo_rules.proofs.Finding.{PassBefore}
use Rattle.utxo_rules.proofs.firsts.missing_input.Given as goal

abbrev pub invariant-loop-input : goal.invariant-loop-input
invariant-loop-input l = PassBefore input_of (λ input. is_some (output_at l.utxo input)) l.inputs l.input-index
