-- Those that are left decide for all.
use Rattle.std.specs.Prelude.{nat_le}
use Rattle.model.specs.Rules.{least_coin}
use Rattle.tx.specs.View.{output_of}
use Rattle.utxo_rules.specs.View.{era_of}
use Rattle.utxo_rules.proofs.Asks.{DecideForAll}
use Rattle.utxo_rules.proofs.conditions.hold_at_least.Given as goal

abbrev pub invariant-loop-output : goal.invariant-loop-output
invariant-loop-output l = DecideForAll output_of (λ o. nat_le (least_coin (era_of l.era) o) o.value.coin) l.outputs l.output-index
