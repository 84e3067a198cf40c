use Rattle.std.proofs.Common.{◌∙◌, sym, refl}
use Rattle.value.specs.View.{asset_of}
use Rattle.script.proofs.Definitions.{unknown_so, found_so}
use Rattle.script.proofs.known.Known.assets_of.Goals as goal

pub returns-then-not-knows_assets : goal.returns-then-not-knows_assets
returns-then-not-knows_assets c = λ names known. (refl, unknown_so _ (sym c.if-not-knows_assets.true ∙ c.knows_assets.ensures names known))

pub returns : goal.returns
returns c = λ names known. found_so asset_of _ c.gather_assets.result (c.gather_assets.ensures names known) (sym c.if-not-knows_assets.false ∙ c.knows_assets.ensures names known)
