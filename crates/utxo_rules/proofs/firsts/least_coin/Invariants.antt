-- What was counted and what is still to be counted are the whole.
use Rattle.std.proofs.Common.{◌≡◌, ◌+◌, length, drop, map}
use Rattle.model.specs.Balance.{assets_under}
use Rattle.value.specs.View.{policy_of}
use Rattle.utxo_rules.proofs.firsts.least_coin.Given as goal

abbrev pub invariant-loop-policy : goal.invariant-loop-policy
invariant-loop-policy l =
    l.count + length (assets_under (map policy_of (drop l.policy-index l.policies))) ≡ length (assets_under (map policy_of l.policies))
