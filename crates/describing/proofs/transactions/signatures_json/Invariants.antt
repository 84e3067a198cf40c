-- What was appended, and the signatures that are still to come, are the whole.
use Rattle.std.proofs.Common.{◌≡◌, ◌++◌, drop, map}
use Rattle.serde_json.specs.View.{view}
use Rattle.tx.specs.View.{witness_of}
use Rattle.describing.specs.Transactions.{json_of_signature}
use Rattle.describing.proofs.transactions.signatures_json.Given as goal

abbrev pub invariant-loop-witness : goal.invariant-loop-witness
invariant-loop-witness g l =
    map view l.list.items ++ map (json_of_signature g.S.SigScheme.verifies l.message) (map witness_of (drop l.witness-index l.signatures))
    ≡ map (json_of_signature g.S.SigScheme.verifies l.message) (map witness_of l.signatures)
