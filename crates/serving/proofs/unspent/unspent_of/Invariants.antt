-- What was found, and what is to be found among the outputs that are still to come, are the whole.
use Rattle.std.proofs.Common.{◌≡◌, ◌++◌, map}
use Rattle.std.specs.Prelude.{filter}
use Rattle.serving.specs.UtxoTelling.{is_of_one, pairs_of, unspent_of}
use Rattle.serving.specs.UnspentView.{unspent_view}
use Rattle.serving.proofs.unspent.unspent_of.Given as goal

abbrev pub invariant-loop-input : goal.invariant-loop-input
invariant-loop-input l =
    map unspent_view l.found.items
    ++ map unspent_of (filter (λ pair. is_of_one (map (λ address. address.items) l.addresses) pair.1) l.input-iterator)
    ≡ map unspent_of (pairs_of l.utxo (map (λ address. address.items) l.addresses))
