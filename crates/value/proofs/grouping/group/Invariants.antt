-- What stands under the policies is what was taken so far.
use Rattle.std.proofs.Common.{◌≡◌, map}
use Rattle.value.specs.View.{asset_of, policy_of}
use Rattle.value.specs.Parts.{flat_assets}
use Rattle.value.specs.Grouped.{IsGrouped}
use Rattle.value.proofs.grouping.group.Given as goal

abbrev pub invariant-loop-asset : goal.invariant-loop-asset
invariant-loop-asset g l =
    (flat_assets (map policy_of l.policies.items) ≡ map asset_of l.yielded) × IsGrouped (map policy_of l.policies.items)
