-- What was appended, and the outputs that are still to come, are the whole.
use Rattle.std.proofs.Common.{◌≡◌, ◌++◌, drop, map}
use Rattle.serde_json.specs.View.{view}
use Rattle.genesis.specs.View.{grant_view}
use Rattle.describing.specs.Geneses.{json_of_grant}
use Rattle.describing.proofs.geneses.grants_json.Given as goal

abbrev pub invariant-loop-grant : goal.invariant-loop-grant
invariant-loop-grant l =
    map view l.list.items ++ map json_of_grant (map grant_view (drop l.grant-index l.grants)) ≡ map json_of_grant (map grant_view l.grants)
