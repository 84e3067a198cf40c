use Rattle.std.proofs.Common.{◌≡◌, List}
use Rattle.std.proofs.lemmas.Result.{IfOk-weaker}
use Rattle.model.specs.Block.{Block}
use Rattle.model.specs.Genesis.{Genesis}
use Rattle.model.specs.Ledger.{network_on}
use Rattle.model.specs.History.{State}
use Rattle.model.specs.Evaluating.{Evaluates, IsEvaluation}
use Rattle.utxo_rules.specs.View.{params_of}
use Rattle.mempool.specs.View.{evaluation_of}
use Rattle.chain.specs.Chained.{chain_of}
use Rattle.chain_core.specs.ChainDbs.{IsWhole, HasState}
use Rattle.chain_core.proofs.Mempools.{evaluated}
use Rattle.chain_core.proofs.chain_db.ChainDb.evaluate.Goals as goal

pub returns-clause-told : goal.returns-clause-told
returns-clause-told g c =
    let v = g.S.SigScheme.verifies in
    let a = c.args.self.now in
    let bytes = c.args.bytes.now in
    IfOk-weaker c.evaluate.result (λ told. Evaluates v (params_of c.params.result.now) c.args.slot a.mempool.waiting.unspent a.mempool.capacity a.mempool.waiting.txs bytes (evaluation_of told))
    (λ told. (genesis : Genesis) (opened : List Block) (s : State) → IsWhole (network_on genesis v opened) a → HasState (network_on genesis v opened) a s → a.mempool.waiting.txs ≡ s.mempool
    → IsEvaluation (network_on genesis v opened) s c.args.slot bytes (evaluation_of told))
    (λ told is genesis opened s whole has txs. evaluated (network_on genesis v opened) (chain_of a.chain) c.state-state.result.now (c.state-state.ensures.chain (network_on genesis v opened) (chain_of a.chain) whole.settled.database)
    a.mempool whole.mempool (params_of c.params.result.now) c.params.ensures c.args.slot bytes s has.chain txs (evaluation_of told) is)
    c.evaluate.ensures.told
