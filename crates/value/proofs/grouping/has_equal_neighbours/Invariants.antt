-- What is left decides, with the one before it.
use Rattle.std.proofs.Common.{map, drop}
use Rattle.value.specs.View.{asset_of}
use Rattle.value.proofs.Repeats.{DecidesFrom}
use Rattle.value.proofs.grouping.has_equal_neighbours.Given as goal

abbrev pub invariant-loop-asset : goal.invariant-loop-asset
invariant-loop-asset g l = DecidesFrom (map asset_of l.fn.assets) (asset_of l.last) (map asset_of (drop l.asset-index l.others))
