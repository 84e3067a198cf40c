-- What was gathered and the names that are still to come are the whole.
use Rattle.std.proofs.Common.{◌++◌, map}
use Rattle.value.specs.View.{asset_of}
use Rattle.value.specs.Listed.{named_sums}
use Rattle.scenario.specs.Gathered.{assets_under}
use Rattle.scenario.proofs.AssetLines.{IsPartNamed}
use Rattle.scenario.proofs.balance.gather_names.Given as goal

abbrev pub invariant-loop-name : goal.invariant-loop-name
invariant-loop-name l =
    IsPartNamed l.policy.bytes (map asset_of l.initial.gathered.items ++ assets_under l.policy.bytes (named_sums l.amounts)) l.gathered.items l.name-iterator
