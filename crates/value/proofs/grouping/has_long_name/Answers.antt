use Rattle.std.proofs.Common.{◌<◌, length, rules, subst}
use Rattle.std.specs.List.{AllByRecursion}
use Rattle.model.specs.Limits.{name_size_limit}
use Rattle.value.specs.View.{asset_of}
use Rattle.value.specs.Checked.{IsNamed}
use Rattle.value.proofs.Walks.{walk_goes_on, walk_stops}
use Rattle.value.proofs.grouping.has_long_name.Goals as goal

pub returns-then-is_too_long-clause-long : goal.returns-then-is_too_long-clause-long
returns-then-is_too_long-clause-long g c =
    let long : name_size_limit < length c.asset-item.result.name.items = rw (← c.deref.ensures.value) (search (rules, c.is_too_long.ensures.long, c.if-is_too_long.true)) in
    walk_stops asset_of IsNamed (λ a. name_size_limit < length a.name) c.args.assets.now c.loop-asset.asset-index c.asset-item.result c.loop-asset-test.true c.asset-item.is long c.loop-asset.invariant

pub loop-asset-preserved : goal.loop-asset-preserved
loop-asset-preserved g c =
    let named : IsNamed (asset_of c.asset-item.result) = record {
      short = rw (← c.deref.ensures.value) (search (rules, c.is_too_long.ensures.long, c.if-is_too_long.false));
      bytes = subst (AllByRecursion (λ b. b < 256)) c.deref.ensures.value c.is_too_long.ensures.bytes;
    } in
    walk_goes_on asset_of IsNamed (λ a. name_size_limit < length a.name) c.args.assets.now c.loop-asset.asset-index c.asset-item.result c.loop-asset-test.true c.asset-item.is named c.loop-asset.invariant
