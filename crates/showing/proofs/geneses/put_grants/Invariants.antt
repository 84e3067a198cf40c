-- What was appended, and the lines of the outputs that are still to come, are the whole.
use Rattle.std.proofs.Common.{◌≡◌, ◌++◌, drop, map}
use Rattle.std.specs.Prelude.{string_bytes}
use Rattle.genesis.specs.View.{grant_view}
use Rattle.showing.specs.Geneses.{lines_of_grants}
use Rattle.showing.proofs.geneses.put_grants.Given as goal

abbrev pub invariant-loop-place : goal.invariant-loop-place
invariant-loop-place l =
    string_bytes l.out ++ lines_of_grants l.place (map grant_view (drop l.place l.grants))
    ≡ string_bytes l.initial.out ++ lines_of_grants 0 (map grant_view l.grants)
