-- What was appended, and the transactions that are still to come, are the whole.
use Rattle.std.proofs.Common.{◌≡◌, ◌++◌, drop, map}
use Rattle.serde_json.specs.View.{view}
use Rattle.describing.specs.Transactions.{json_of_transaction}
use Rattle.describing.proofs.blocks.transactions_json.Given as goal

abbrev pub invariant-loop-tx : goal.invariant-loop-tx
invariant-loop-tx g l =
    map view l.list.items ++ map (json_of_transaction g.S.SigScheme.verifies) (drop l.tx-index l.transactions) ≡ map (json_of_transaction g.S.SigScheme.verifies) l.transactions
