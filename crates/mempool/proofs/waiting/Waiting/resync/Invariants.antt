-- Those that are kept and those that stay of the rest are what stays of all.
use Rattle.utxo_rules.specs.View.{params_of}
use Rattle.mempool.proofs.Passing.{IsPartPassed}
use Rattle.mempool.proofs.waiting.Waiting.resync.Given as goal

abbrev pub invariant-loop-tx : goal.invariant-loop-tx
invariant-loop-tx g l = IsPartPassed g.S.SigScheme.verifies (params_of l.params) l.slot l.fn.unspent l.fn.self.txs l.kept l.tx-iterator
