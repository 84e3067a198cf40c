-- Those that are left decide for all.
use Rattle.std.specs.Prelude.{is_some}
use Rattle.model.specs.Utxo.{output_at}
use Rattle.tx.specs.View.{input_of}
use Rattle.utxo_rules.proofs.Asks.{DecideForAll}
use Rattle.utxo_rules.proofs.conditions.are_unspent.Given as goal

abbrev pub invariant-loop-input : goal.invariant-loop-input
invariant-loop-input l = DecideForAll input_of (λ input. is_some (output_at l.utxo input)) l.inputs l.input-index
