use Rattle.std.proofs.Common.{◌≡◌, length}
use Rattle.std.specs.List.{list_all}
use Rattle.script.specs.Text.{is_name}
use Rattle.script.specs.WordsView.{words_left}
use Rattle.script.proofs.name_words.NameWords.of.Given as goal

-- the words that were read are names
abbrev pub invariant-loop-word : goal.invariant-loop-word
invariant-loop-word l = list_all is_name (words_left l.words) ≡ list_all is_name (words_left l.left)

abbrev pub decreases-loop-word : goal.decreases-loop-word
decreases-loop-word l = length (words_left l.left)
