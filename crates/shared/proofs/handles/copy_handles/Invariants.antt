use Rattle.std.proofs.Common.{◌≡◌, ◌++◌, map}
use Rattle.std.specs.Arc.{arc_value}
use Rattle.shared.proofs.handles.copy_handles.Given as goal

-- what was copied and what is left are the transactions
abbrev pub invariant-loop-tx : goal.invariant-loop-tx
invariant-loop-tx g l = map arc_value l.handles.items ++ map arc_value l.tx-iterator ≡ l.fn.mempool.waiting.txs
