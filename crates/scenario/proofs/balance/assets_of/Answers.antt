use Rattle.std.proofs.Common.{rules}
use Rattle.std.specs.List.Sorted.{IsSortedBy}
use Rattle.std.specs.Ordering.{is_lt}
use Rattle.std.proofs.lemmas.List.Sorted.{ranks_by, answers_always}
use Rattle.value.specs.Order.{asset_cmp}
use Rattle.value.specs.Totals.{total_of}
use Rattle.value.specs.View.{asset_of}
use Rattle.scenario.proofs.AssetLines.{assets_total, in_order}
use Rattle.scenario.proofs.balance.assets_of.Goals as goal

pub returns : goal.returns
returns c =
    let sorted = c.sort_unstable_by.new.self.items in
    let order : IsSortedBy (λ a b. is_lt (asset_cmp (asset_of a) (asset_of b))) sorted =
    c.sort_unstable_by.ensures.sorted (λ a b. is_lt (asset_cmp (asset_of a) (asset_of b))) (ranks_by assets_total asset_of) (answers_always _ _ _ (λ f a r h k. search rules)) in
    in_order asset_of (total_of c.args.totals.now) c.in_ok-assets.assets.items sorted c.in_ok-assets.ensures c.sort_unstable_by.ensures.permutation order
