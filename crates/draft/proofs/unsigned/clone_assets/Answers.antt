use Rattle.std.proofs.Common.{◌≡◌, ◌∙◌, List, ℕ, ap}
use Rattle.value.specs.View.{asset_of}
use Rattle.value.specs.declared.asset_quantity.AssetQuantity.{AssetQuantity}
use Rattle.draft.proofs.Copying.{one_made, all_made}
use Rattle.draft.proofs.unsigned.clone_assets.Goals as goal

pub loop-asset-preserved : goal.loop-asset-preserved
loop-asset-preserved g c =
    let x = c.asset-item.result in
    let copy : AssetQuantity _ = record { policy = x.policy; name = c.in_ok-name.name; quantity = x.quantity } in
    let same : asset_of copy ≡ asset_of x = ap (λ (n : List ℕ). record { policy = x.policy.bytes; name = n; quantity = x.quantity }) (c.in_ok-name.ensures.items ∙ c.deref.ensures.value) in
    one_made asset_of asset_of c.loop-asset.copies.items c.push.new.self.items c.args.assets.now c.loop-asset.asset-index x copy c.loop-asset-test.true (same ∙ ap asset_of c.asset-item.is) c.in_ok-push.ensures.items c.loop-asset.invariant

pub returns : goal.returns
returns g c = all_made asset_of asset_of c.loop-asset.copies.items c.args.assets.now c.loop-asset.asset-index c.loop-asset-test.false c.loop-asset.invariant
