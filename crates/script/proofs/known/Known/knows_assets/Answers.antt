use Rattle.std.proofs.Common.{◌≡◌, ◌∙◌, ◌<◌, ℕ, List, None, true, false, not, refl, is_some, length, sym, ap, subst}
use Rattle.script.specs.AssetView.{named_asset_of}
use Rattle.script.specs.Line.{NamedAsset, said_assets}
use Rattle.script.specs.Names.{bound_to}
use Rattle.script.specs.WordsView.{words_left}
use Rattle.script.proofs.Asking.{free_so, bound_so}
use Rattle.script.proofs.Gathering.{fewer_assets, next_asset_known, next_asset_unknown, no_assets_left, some_more}
use Rattle.script.proofs.known.Known.knows_assets.Goals as goal

pub returns-then-is_none : goal.returns-then-is_none
returns-then-is_none c = λ names known.
    let none : is_some c.get.result ≡ false = c.is_none.ensures ∙ ap not c.if-is_none.true in
    let unknown : bound_to c.in-Some.asset.script.text.now names.of_scripts ≡ None = free_so (λ s. s.now) c.get.result _ (c.get.ensures names.of_scripts known.of_scripts) none in
    let end = next_asset_unknown names (said_assets (words_left c.loop-asset.left.words)) (named_asset_of c.in-Some.asset) (sym c.in-Some.ensures.asset) unknown in
    sym (c.loop-asset.invariant names known ∙ rw end refl)

pub loop-asset-smaller : goal.loop-asset-smaller
loop-asset-smaller c =
    let left = said_assets (words_left c.loop-asset.left.words) in
    subst (λ (l : List (NamedAsset ℕ)). length l < length left) (sym c.next_asset.ensures.rest) (fewer_assets left (named_asset_of c.in-Some.asset) (sym c.in-Some.ensures.asset))

pub loop-asset-preserved : goal.loop-asset-preserved
loop-asset-preserved c = λ names known.
    let some : is_some c.get.result ≡ true = c.is_none.ensures ∙ ap not c.if-is_none.false in
    let bound = bound_so (λ s. s.now) c.get.result _ (c.get.ensures names.of_scripts known.of_scripts) some in
    let more = next_asset_known names (said_assets (words_left c.loop-asset.left.words)) (named_asset_of c.in-Some.asset) bound.0 (sym c.in-Some.ensures.asset) bound.1 in
    c.loop-asset.invariant names known ∙ some_more _ _ _ more ∙ rw c.next_asset.ensures.rest refl

pub returns : goal.returns
returns c = λ names known.
    let none = sym c.in_default.ensures.asset in
    sym (c.loop-asset.invariant names known ∙ rw (no_assets_left names (said_assets (words_left c.loop-asset.left.words)) none) refl)
