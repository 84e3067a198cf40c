-- Those that were seen hold enough.
use Rattle.std.specs.Prelude.{nat_le}
use Rattle.model.specs.Rules.{least_coin}
use Rattle.tx.specs.View.{output_of}
use Rattle.utxo_rules.specs.View.{era_of}
use Rattle.utxo_rules.proofs.Finding.{PassBefore}
use Rattle.utxo_rules.proofs.firsts.small_output.Given as goal

abbrev pub invariant-loop-index : goal.invariant-loop-index
invariant-loop-index l = PassBefore output_of (λ o. nat_le (least_coin (era_of l.era) o) o.value.coin) l.outputs l.index
