-- What was appended, and the assets of the policies that are still to come, are the whole.
use Rattle.std.proofs.Common.{◌≡◌, ◌++◌, drop, map}
use Rattle.std.specs.Prelude.{flat_map}
use Rattle.serde_json.specs.View.{view}
use Rattle.value.specs.View.{policy_of}
use Rattle.describing.specs.Values.{jsons_of_policy}
use Rattle.describing.proofs.values.assets_json.Given as goal

abbrev pub invariant-loop-policy : goal.invariant-loop-policy
invariant-loop-policy g l =
    map view l.list.items ++ flat_map (jsons_of_policy g.Q.Amount.whole) (map policy_of (drop l.policy-index l.policies))
    ≡ flat_map (jsons_of_policy g.Q.Amount.whole) (map policy_of l.policies)
