use Rattle.std.proofs.Common.{◌≡◌, length, is_some}
use Rattle.script.specs.KnownView.{AreKnown}
use Rattle.script.specs.Line.{said_assets}
use Rattle.script.specs.Meaning.{assets_of}
use Rattle.script.specs.Names.{AllNames}
use Rattle.script.specs.WordsView.{words_left}
use Rattle.script.proofs.known.Known.knows_assets.Given as goal

-- the scripts so far are known
abbrev pub invariant-loop-asset : goal.invariant-loop-asset
invariant-loop-asset l = (names : AllNames) → AreKnown l.self names → is_some (assets_of names (said_assets (words_left l.assets.words))) ≡ is_some (assets_of names (said_assets (words_left l.left.words)))

abbrev pub decreases-loop-asset : goal.decreases-loop-asset
decreases-loop-asset l = length (said_assets (words_left l.left.words))
