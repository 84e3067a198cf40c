-- What was added for the first policies, and what is still to add for the others, are what is asked.
use Rattle.std.proofs.Common.{◌≡◌, ◌+◌, ◌*◌, length, drop, map}
use Rattle.model.specs.Balance.{assets_under}
use Rattle.value.specs.View.{policy_of}
use Rattle.utxo_rules.proofs.conditions.is_enough.Given as goal

abbrev pub invariant-loop-policy : goal.invariant-loop-policy
invariant-loop-policy l =
    l.least + l.per_asset * length (assets_under (map policy_of (drop l.policy-index l.policies)))
    ≡ l.min_utxo + l.per_asset * length (assets_under (map policy_of l.policies))
