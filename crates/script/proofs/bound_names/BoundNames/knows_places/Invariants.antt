use Rattle.std.proofs.Common.{◌≡◌, List, length, is_some}
use Rattle.script.specs.Line.{said_places}
use Rattle.script.specs.Meaning.{points_at}
use Rattle.script.specs.Names.{Binding}
use Rattle.script.specs.NamesView.{AreBound}
use Rattle.script.specs.WordsView.{words_left}
use Rattle.script.proofs.bound_names.BoundNames.knows_places.Given as goal

-- the places so far are known
abbrev pub invariant-loop-place : goal.invariant-loop-place
invariant-loop-place l = (names : List Binding) → AreBound l.self names → is_some (points_at names (said_places (words_left l.places.words))) ≡ is_some (points_at names (said_places (words_left l.left.words)))

abbrev pub decreases-loop-place : goal.decreases-loop-place
decreases-loop-place l = length (words_left l.left.words)
