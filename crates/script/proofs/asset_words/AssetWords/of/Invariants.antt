use Rattle.std.proofs.Common.{◌≡◌, length, is_some}
use Rattle.script.specs.Line.{parse_assets}
use Rattle.script.specs.WordsView.{words_left}
use Rattle.script.proofs.asset_words.AssetWords.of.Given as goal

-- the words that were read say assets
abbrev pub invariant-loop-left : goal.invariant-loop-left
invariant-loop-left l = is_some (parse_assets (words_left l.words)) ≡ is_some (parse_assets (words_left l.left))

abbrev pub decreases-loop-left : goal.decreases-loop-left
decreases-loop-left l = length (words_left l.left)
