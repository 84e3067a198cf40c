-- What is taken of all is what is taken of the rest after what was taken.
use Rattle.utxo_rules.specs.View.{params_of}
use Rattle.mempool.proofs.Offers.{IsPartPicked}
use Rattle.mempool.proofs.waiting.Waiting.pick.Given as goal

abbrev pub invariant-loop-tx : goal.invariant-loop-tx
invariant-loop-tx g l = IsPartPicked g.S.SigScheme.verifies (params_of l.params) l.slot l.fn.unspent l.fn.self.txs l.taken l.tx-iterator
