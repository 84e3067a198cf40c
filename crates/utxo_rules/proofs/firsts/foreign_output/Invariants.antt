-- Those that were seen are of the network.
use Rattle.std.specs.Prelude.{◌==◌}
use Rattle.tx.specs.View.{output_of}
use Rattle.utxo_rules.proofs.Finding.{PassBefore}
use Rattle.utxo_rules.proofs.firsts.foreign_output.Given as goal

abbrev pub invariant-loop-index : goal.invariant-loop-index
invariant-loop-index l = PassBefore output_of (λ o. o.address.network == l.params.network) l.outputs l.index
