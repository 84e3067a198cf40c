use Rattle.std.proofs.Common.{◌≡◌, ◌<◌, ℕ, List, None, length, sym, subst, refl, is_some, false}
use Rattle.value.specs.View.{asset_of}
use Rattle.script.specs.AssetView.{named_asset_of}
use Rattle.script.specs.Line.{NamedAsset, said_assets}
use Rattle.script.specs.WordsView.{words_left}
use Rattle.script.proofs.Gathering.{found_asset, fewer_assets, next_asset_known, next_asset_unknown, no_assets_left, same_asset, gathered_more, all_gathered, none_wanted}
use Rattle.script.proofs.Asking.{free_so, no_some}
use Rattle.script.specs.Names.{bound_to}
use Rattle.value.specs.declared.asset_quantity.AssetQuantity.{AssetQuantity as CodeAssetQuantity}
use Rattle.script.proofs.known.Known.gather_assets.Goals as goal

pub returns-in_default-get : goal.returns-in_default-get
returns-in_default-get c = λ names known.
    let none : is_some c.get.result ≡ false = no_some c.get.result c.in_default-get.not-Some in
    let unknown : bound_to c.in-Some.asset.script.text.now names.of_scripts ≡ None = free_so (λ s. s.now) c.get.result _ (c.get.ensures names.of_scripts known.of_scripts) none in
    let end = next_asset_unknown names (said_assets (words_left c.loop-asset.left.words)) (named_asset_of c.in-Some.asset) (sym c.in-Some.ensures.asset) unknown in
    (refl, none_wanted _ _ _ (c.loop-asset.invariant names known) end)

pub loop-asset-smaller : goal.loop-asset-smaller
loop-asset-smaller c =
    let left = said_assets (words_left c.loop-asset.left.words) in
    subst (λ (l : List (NamedAsset ℕ)). length l < length left) (sym c.next_asset.ensures.rest) (fewer_assets left (named_asset_of c.in-Some.asset) (sym c.in-Some.ensures.asset))

pub loop-asset-preserved : goal.loop-asset-preserved
loop-asset-preserved c = λ names known.
    let left = said_assets (words_left c.loop-asset.left.words) in
    let asset = named_asset_of c.in-Some.asset in
    let bound = sym (c.in-Some-get.ensures names.of_scripts known.of_scripts) in
    let more = next_asset_known names left asset c.in-Some-get.script.now (sym c.in-Some.ensures.asset) bound in
    let pushed : CodeAssetQuantity ℕ = record { policy = c.hash.result; name = c.in_ok-bytes.field-0; quantity = c.in-Some.asset.quantity } in
    rw c.next_asset.ensures.rest
    (gathered_more asset_of c.loop-asset.gathered.items c.push.new.self.items pushed (found_asset asset c.in-Some-get.script.now) _ _ _ c.in_ok-push.ensures.items
    (same_asset asset c.in-Some-get.script.now c.hash.result.bytes c.in_ok-bytes.field-0.items c.hash.ensures c.in_ok-bytes.ensures) (c.loop-asset.invariant names known) more)

pub returns : goal.returns
returns c = λ names known.
    let none = sym c.in_default.ensures.asset in
    all_gathered _ _ _ (c.loop-asset.invariant names known) (no_assets_left names (said_assets (words_left c.loop-asset.left.words)) none)
