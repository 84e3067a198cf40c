use Rattle.std.proofs.Common.{map, drop}
use Rattle.value.specs.View.{policy_of}
use Rattle.value.proofs.Preparing.{PreparedAll}
use Rattle.value.proofs.amounts.AllAmounts.make_entries.Given as goal

abbrev pub invariant-loop-policy : goal.invariant-loop-policy
invariant-loop-policy g l = PreparedAll l.fn.self l.self (map policy_of l.policies) (map policy_of (drop l.policy-index l.policies))
