-- What was copied is the first assets.
use Rattle.std.proofs.Common.{◌≡◌, map, take}
use Rattle.value.specs.View.{asset_of}
use Rattle.draft.proofs.unsigned.clone_assets.Given as goal

abbrev pub invariant-loop-asset : goal.invariant-loop-asset
invariant-loop-asset g l = map asset_of l.copies.items ≡ map asset_of (take l.asset-index l.assets)
