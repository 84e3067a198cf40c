use Rattle.std.proofs.Common.{◌≡◌, length, ◌++◌, List, map, option_map}
use Rattle.ident.specs.PointView.{point_of}
use Rattle.model.specs.Chain.{Point}
use Rattle.script.specs.Line.{said_places}
use Rattle.script.specs.Meaning.{points_at}
use Rattle.script.specs.Names.{Binding}
use Rattle.script.specs.NamesView.{AreBound}
use Rattle.script.specs.WordsView.{words_left}
use Rattle.script.proofs.bound_names.BoundNames.gather_points.Given as goal

-- those so far are gathered
abbrev pub invariant-loop-place : goal.invariant-loop-place
invariant-loop-place l = (names : List Binding) → AreBound l.self names → points_at names (said_places (words_left l.places.words))
    ≡ option_map (λ (rest : List Point). map point_of l.gathered.items ++ rest) (points_at names (said_places (words_left l.left.words)))

abbrev pub decreases-loop-place : goal.decreases-loop-place
decreases-loop-place l = length (words_left l.left.words)
