-- The outputs that were told and those that are still to come are all.
use Rattle.std.proofs.Common.{◌≡◌, ◌++◌, drop, map}
use Rattle.serving.specs.UtxoTelling.{output_told}
use Rattle.serving.specs.UnspentView.{unspent_view}
use Rattle.serving.proofs.unspent.told_outputs.Given as goal

abbrev pub invariant-loop-unspent : goal.invariant-loop-unspent
invariant-loop-unspent l =
    map output_told l.told.items ++ map unspent_view (drop l.unspent-index l.outputs) ≡ map unspent_view l.outputs
