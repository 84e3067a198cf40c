-- What was found, and what is to be found at the places that are still to come, are the whole.
use Rattle.std.proofs.Common.{◌≡◌, ◌++◌, drop, map}
use Rattle.conversing.specs.RequestView.{place_view}
use Rattle.serving.specs.UtxoTelling.{pairs_at, unspent_of}
use Rattle.serving.specs.UnspentView.{unspent_view}
use Rattle.serving.proofs.unspent.unspent_at.Given as goal

abbrev pub invariant-loop-place : goal.invariant-loop-place
invariant-loop-place l =
    map unspent_view l.found.items ++ map unspent_of (pairs_at l.utxo (map place_view (drop l.place-index l.places)))
    ≡ map unspent_of (pairs_at l.utxo (map place_view l.places))
