use Rattle.std.proofs.Common.{◌≤◌, length, take}
use Rattle.model.specs.Asked.{NoTxHas}
use Rattle.chain_core.proofs.standing.index_in.Given as goal

-- none of the transactions so far
abbrev pub invariant-loop-index : goal.invariant-loop-index
invariant-loop-index g l = record {
  within : l.index ≤ length l.transactions;
  none : NoTxHas (take l.index l.transactions) l.id.bytes;
}
