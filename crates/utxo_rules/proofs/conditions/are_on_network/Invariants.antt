-- Those that are left decide for all.
use Rattle.std.specs.Prelude.{◌==◌}
use Rattle.tx.specs.View.{output_of}
use Rattle.utxo_rules.proofs.Asks.{DecideForAll}
use Rattle.utxo_rules.proofs.conditions.are_on_network.Given as goal

abbrev pub invariant-loop-output : goal.invariant-loop-output
invariant-loop-output l = DecideForAll output_of (λ o. o.address.network == l.network) l.outputs l.output-index
