use Rattle.std.proofs.Common.{◌≡◌, pos, map, drop}
use Rattle.value.specs.View.{asset_of}
use Rattle.value.specs.Checked.{IsCounted}
use Rattle.value.proofs.Walks.{IsWalked}
use Rattle.value.proofs.grouping.has_zero.Given as goal

abbrev pub invariant-loop-asset : goal.invariant-loop-asset
invariant-loop-asset g l =
    let q = g.Q.Quantity in
    IsWalked asset_of (IsCounted q.whole q.is_quantity q.item_of) (λ a. q.whole a.quantity ≡ pos 0) l.assets (map asset_of (drop l.asset-index l.assets))
