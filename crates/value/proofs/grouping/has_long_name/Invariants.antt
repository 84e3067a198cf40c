use Rattle.std.proofs.Common.{◌<◌, map, drop, length}
use Rattle.model.specs.Limits.{name_size_limit}
use Rattle.value.specs.View.{asset_of}
use Rattle.value.specs.Checked.{IsNamed}
use Rattle.value.proofs.Walks.{IsWalked}
use Rattle.value.proofs.grouping.has_long_name.Given as goal

abbrev pub invariant-loop-asset : goal.invariant-loop-asset
invariant-loop-asset g l = IsWalked asset_of IsNamed (λ a. name_size_limit < length a.name) l.assets (map asset_of (drop l.asset-index l.assets))
