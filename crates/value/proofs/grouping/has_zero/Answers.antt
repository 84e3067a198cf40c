use Rattle.std.proofs.Common.{◌≡◌, pos, rules}
use Rattle.value.specs.View.{asset_of}
use Rattle.value.specs.Checked.{IsCounted}
use Rattle.value.proofs.Walks.{walk_goes_on, walk_stops}
use Rattle.value.proofs.grouping.has_zero.Goals as goal

pub returns-then-is_zero-clause-zero : goal.returns-then-is_zero-clause-zero
returns-then-is_zero-clause-zero g c =
    let q = g.Q.Quantity in
    let zero : q.whole c.asset-item.result.quantity ≡ pos 0 = search (rules, c.is_zero.ensures.zero, c.if-is_zero.true) in
    walk_stops asset_of (IsCounted q.whole q.is_quantity q.item_of) (λ a. q.whole a.quantity ≡ pos 0) c.args.assets.now c.loop-asset.asset-index c.asset-item.result c.loop-asset-test.true c.asset-item.is zero c.loop-asset.invariant

pub loop-asset-preserved : goal.loop-asset-preserved
loop-asset-preserved g c =
    let q = g.Q.Quantity in
    let said = c.if-is_zero.ensures.said in
    let counted : IsCounted q.whole q.is_quantity q.item_of (asset_of c.asset-item.result) = record {
      counts = search (rules, c.is_zero.ensures.zero, c.if-is_zero.false);
      quantity = said.0;
      item = said.1;
    } in
    walk_goes_on asset_of (IsCounted q.whole q.is_quantity q.item_of) (λ a. q.whole a.quantity ≡ pos 0) c.args.assets.now c.loop-asset.asset-index c.asset-item.result c.loop-asset-test.true c.asset-item.is counted c.loop-asset.invariant
