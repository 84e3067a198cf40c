-- With what is still to be put in it is what is asked for.
use Rattle.std.specs.FinMap as finite
use Rattle.model.specs.Genesis.{opening_id}
use Rattle.utxo_rules.proofs.ForCallers.{IsPartPlaced}
use Rattle.ledger.specs.View.{granted_output}
use Rattle.ledger.proofs.opening.grant_all.Given as goal

abbrev pub invariant-loop-index : goal.invariant-loop-index
invariant-loop-index l = IsPartPlaced granted_output opening_id finite.empty l.utxo l.grants l.index
