-- With those that are still to be put in it has all.
use Rattle.model.specs.Transaction.{address_bytes}
use Rattle.tx.specs.View.{address_of}
use Rattle.watching.proofs.Choosing.{ArePartHeld}
use Rattle.watching.proofs.which.Which.addresses.Given as goal

abbrev pub invariant-loop-address : goal.invariant-loop-address
invariant-loop-address l = ArePartHeld (λ o. o) (λ a. address_bytes (address_of a)) l.addresses l.owners.keys l.address-index
