-- What was added and what is still to be added are the whole.
use Rattle.tx.specs.View.{address_of}
use Rattle.value.specs.Totals.{total_of}
use Rattle.scenario.specs.Balances.{outputs_of_address}
use Rattle.scenario.proofs.BalanceSums.{IsPartSummed}
use Rattle.scenario.proofs.balance.totals_at.Given as goal

abbrev pub invariant-loop-output : goal.invariant-loop-output
invariant-loop-output l = IsPartSummed (outputs_of_address (address_of l.address) l.utxo) (total_of l.totals) l.totals.values l.output-iterator
