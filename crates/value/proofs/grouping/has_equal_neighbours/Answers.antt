use Rattle.std.proofs.Common.{◌≡◌, ◌≢◌, ◌+◌, map, drop, sym, ◌∙◌}
use Rattle.std.specs.declared.cmp.Ordering.TheVariants.{Equal}
use Rattle.std.specs.Cmp.{Equal-is}
use Rattle.value.specs.View.{asset_of}
use Rattle.value.specs.Order.{asset_cmp}
use Rattle.value.proofs.Lists.{rest_here}
use Rattle.value.proofs.Repeats.{DecidesFrom, repeat_here, neighbours_more}
use Rattle.value.proofs.grouping.has_equal_neighbours.Goals as goal

pub returns-then-is_eq-clause-repeats : goal.returns-then-is_eq-clause-repeats
returns-then-is_eq-clause-repeats g c =
    let all = map asset_of c.args.assets.now in
    let last = asset_of c.loop-asset.last.now in
    let here = rest_here asset_of (DecidesFrom all last) c.in-Some.others.now c.loop-asset.asset-index c.asset-item.result c.loop-asset-test.true c.asset-item.is c.loop-asset.invariant in
    let same : asset_cmp last (asset_of c.asset-item.result) ≡ Equal = sym c.order.ensures ∙ (Equal-is c.order.result).0 (sym c.is_eq.ensures ∙ c.if-is_eq.true) in
    here.repeats (repeat_here last (asset_of c.asset-item.result) (map asset_of (drop (c.loop-asset.asset-index + 1) c.in-Some.others.now)) same)

pub loop-asset-preserved : goal.loop-asset-preserved
loop-asset-preserved g c =
    let all = map asset_of c.args.assets.now in
    let last = asset_of c.loop-asset.last.now in
    let here = rest_here asset_of (DecidesFrom all last) c.in-Some.others.now c.loop-asset.asset-index c.asset-item.result c.loop-asset-test.true c.asset-item.is c.loop-asset.invariant in
    let apart : asset_cmp last (asset_of c.asset-item.result) ≢ Equal = λ same. let yes = (Equal-is c.order.result).1 (c.order.ensures ∙ same) in let no = sym c.if-is_eq.false ∙ (c.is_eq.ensures ∙ yes) in absurd cc in
    neighbours_more all last (asset_of c.asset-item.result) (map asset_of (drop (c.loop-asset.asset-index + 1) c.in-Some.others.now)) apart here
