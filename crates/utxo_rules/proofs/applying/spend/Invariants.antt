-- Without what is still to be spent it is what is asked for.
use Rattle.utxo_rules.proofs.Pairs.{IsPartWithout}
use Rattle.utxo_rules.proofs.applying.spend.Given as goal

abbrev pub invariant-loop-input : goal.invariant-loop-input
invariant-loop-input l = IsPartWithout l.fn.utxo l.utxo l.inputs l.input-index
