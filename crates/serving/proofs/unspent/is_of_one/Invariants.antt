-- The output is of none of the addresses so far.
use Rattle.std.proofs.Common.{◌≡◌, drop, map}
use Rattle.tx.specs.View.{output_of}
use Rattle.serving.specs.UtxoTelling.{is_of_one}
use Rattle.serving.proofs.unspent.is_of_one.Given as goal

abbrev pub invariant-loop-address : goal.invariant-loop-address
invariant-loop-address l =
    is_of_one (map (λ address. address.items) (drop l.address-index l.addresses)) (output_of l.output)
    ≡ is_of_one (map (λ address. address.items) l.addresses) (output_of l.output)
