-- With the pairs that are still to be put in it is what is asked for.
use Rattle.utxo_rules.proofs.Changing.{IsPartPut}
use Rattle.utxo_rules.proofs.undoing.put_all.Given as goal

abbrev pub invariant-loop-pair : goal.invariant-loop-pair
invariant-loop-pair l = IsPartPut l.fn.utxo l.utxo l.pairs l.pair-index
