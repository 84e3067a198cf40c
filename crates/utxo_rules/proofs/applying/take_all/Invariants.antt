-- What was taken out, with what is still to be taken out, is what is asked for.
use Rattle.utxo_rules.proofs.Changing.{IsPartTaken}
use Rattle.utxo_rules.proofs.applying.take_all.Given as goal

abbrev pub invariant-loop-input : goal.invariant-loop-input
invariant-loop-input l = IsPartTaken l.fn.utxo l.utxo l.taken.items l.inputs l.input-index
