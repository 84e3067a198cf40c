-- What was appended, and the assets of the policies that are still to come, are the whole.
use Rattle.std.proofs.Common.{◌≡◌, ◌++◌, drop, map}
use Rattle.value.specs.Parts.{flat_assets}
use Rattle.value.specs.View.{policy_of}
use Rattle.serving.specs.UtxoTelling.{asset_told}
use Rattle.serving.proofs.unspent.told_assets.Given as goal

abbrev pub invariant-loop-policy : goal.invariant-loop-policy
invariant-loop-policy l =
    map asset_told l.assets.items ++ flat_assets (map policy_of (drop l.policy-index l.policies))
    ≡ flat_assets (map policy_of l.policies)
