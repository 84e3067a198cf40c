-- With what is still to be put in it is what is asked for.
use Rattle.tx.specs.View.{output_of}
use Rattle.utxo_rules.proofs.ForCallers.{IsPartPlaced}
use Rattle.utxo_rules.proofs.applying.place.Given as goal

abbrev pub invariant-loop-index : goal.invariant-loop-index
invariant-loop-index l = IsPartPlaced output_of l.id.bytes l.fn.utxo l.utxo l.outputs l.index
