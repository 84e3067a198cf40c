-- What was appended, and the lines of the transactions that are still to come, are the whole.
use Rattle.std.proofs.Common.{◌≡◌, ◌++◌, drop}
use Rattle.std.specs.Prelude.{flat_map, string_bytes}
use Rattle.showing.specs.Transactions.{lines_of_transaction}
use Rattle.showing.proofs.blocks.put_transactions.Given as goal

abbrev pub invariant-loop-tx : goal.invariant-loop-tx
invariant-loop-tx g l =
    string_bytes l.out ++ flat_map (lines_of_transaction g.S.SigScheme.verifies l.margin) (drop l.tx-index l.transactions)
    ≡ string_bytes l.initial.out ++ flat_map (lines_of_transaction g.S.SigScheme.verifies l.margin) l.transactions
