use Rattle.std.proofs.Common.{map, drop}
use Rattle.value.specs.View.{policy_of}
use Rattle.value.proofs.Adding.{ChangingAll}
use Rattle.value.proofs.amounts.AllAmounts.change.Given as goal

abbrev pub invariant-loop-policy : goal.invariant-loop-policy
invariant-loop-policy g l = ChangingAll g.Q.Quantity.whole l.side l.fn.self l.self (map policy_of l.policies) (map policy_of (drop l.policy-index l.policies))
