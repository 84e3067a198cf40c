use Rattle.std.proofs.Common.{◌≡◌, List, ◌++◌, length, map}
use Rattle.std.specs.Arc.{arc_value}
use Rattle.model.specs.Transaction.{Transaction}
use Rattle.model.specs.Asked.{NoTxHas}
use Rattle.chain_core.proofs.standing.position_in.Given as goal

-- none of the transactions so far
abbrev pub invariant-loop-tx : goal.invariant-loop-tx
invariant-loop-tx g l =
    (before : List Transaction)
    × (l.mempool.waiting.txs ≡ before ++ map arc_value l.tx-iterator)
    × (l.position ≡ length before) × NoTxHas before l.id.bytes
