use Rattle.std.proofs.Common.{◌≡◌, length, ◌++◌, List, ℕ, map, option_map}
use Rattle.value.specs.Parts.{AssetQuantity}
use Rattle.value.specs.View.{asset_of}
use Rattle.script.specs.KnownView.{AreKnown}
use Rattle.script.specs.Line.{said_assets}
use Rattle.script.specs.Meaning.{assets_of}
use Rattle.script.specs.Names.{AllNames}
use Rattle.script.specs.WordsView.{words_left}
use Rattle.script.proofs.known.Known.gather_assets.Given as goal

-- those so far are gathered
abbrev pub invariant-loop-asset : goal.invariant-loop-asset
invariant-loop-asset l = (names : AllNames) → AreKnown l.self names → assets_of names (said_assets (words_left l.assets.words))
    ≡ option_map (λ (rest : List (AssetQuantity ℕ)). map asset_of l.gathered.items ++ rest) (assets_of names (said_assets (words_left l.left.words)))

abbrev pub decreases-loop-asset : goal.decreases-loop-asset
decreases-loop-asset l = length (said_assets (words_left l.left.words))
