-- What was gathered and the policies that are still to come are the whole.
use Rattle.value.specs.Listed.{listed}
use Rattle.value.specs.Totals.{policies_met}
use Rattle.scenario.proofs.AssetLines.{IsPartFlat, flat}
use Rattle.scenario.proofs.balance.gather.Given as goal

abbrev pub invariant-loop-policy : goal.invariant-loop-policy
invariant-loop-policy l = IsPartFlat (flat (listed (policies_met l.totals))) l.gathered.items l.policy-iterator
