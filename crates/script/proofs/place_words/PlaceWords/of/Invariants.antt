use Rattle.std.proofs.Common.{◌≡◌, length}
use Rattle.std.specs.List.{list_all}
use Rattle.script.specs.Line.{is_place}
use Rattle.script.specs.WordsView.{words_left}
use Rattle.script.proofs.place_words.PlaceWords.of.Given as goal

-- the words that were read say places
abbrev pub invariant-loop-word : goal.invariant-loop-word
invariant-loop-word l = list_all is_place (words_left l.words) ≡ list_all is_place (words_left l.left)

abbrev pub decreases-loop-word : goal.decreases-loop-word
decreases-loop-word l = length (words_left l.left)
