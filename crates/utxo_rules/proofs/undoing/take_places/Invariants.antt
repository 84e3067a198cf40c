-- Without the places that are still to be taken out it is what is asked for.
use Rattle.utxo_rules.proofs.Changing.{IsPartUnplaced}
use Rattle.utxo_rules.proofs.undoing.take_places.Given as goal

abbrev pub invariant-loop-index : goal.invariant-loop-index
invariant-loop-index l = IsPartUnplaced l.id.bytes l.count l.fn.utxo l.utxo l.index
