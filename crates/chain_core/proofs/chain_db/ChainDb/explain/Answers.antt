use Rattle.std.proofs.Common.{◌≡◌, ◌+◌, List}
use Rattle.std.specs.Option.{option_map}
use Rattle.std.proofs.lemmas.Result.{IfOk-weaker}
use Rattle.model.specs.Block.{Block}
use Rattle.model.specs.Genesis.{Genesis}
use Rattle.model.specs.Ledger.{network_on}
use Rattle.model.specs.History.{State}
use Rattle.model.specs.Asked.{ExplainsSubmission}
use Rattle.utxo_rules.specs.View.{params_of}
use Rattle.utxo_rules.specs.DetailView.{detail_of}
use Rattle.mempool.specs.Calls.{ExplainsBytes}
use Rattle.chain.specs.Chained.{chain_of}
use Rattle.chain_core.specs.ChainDbs.{IsWhole, HasState}
use Rattle.chain_core.proofs.Mempools.{explained}
use Rattle.chain_core.proofs.chain_db.ChainDb.explain.Goals as goal

pub returns-clause-told : goal.returns-clause-told
returns-clause-told g c =
    let v = g.S.SigScheme.verifies in
    let a = c.args.self.now in
    IfOk-weaker c.explain.result (λ told. ExplainsBytes v (params_of c.params.result.now) (c.slot.result + 1) a.mempool c.args.bytes.now (option_map detail_of told))
    (λ told. (genesis : Genesis) (opened : List Block) (s : State) → IsWhole (network_on genesis v opened) a → HasState (network_on genesis v opened) a s → a.mempool.waiting.txs ≡ s.mempool
    → ExplainsSubmission (network_on genesis v opened) s c.args.bytes.now (option_map detail_of told))
    (λ told is genesis opened s whole has txs. explained (network_on genesis v opened) (chain_of a.chain) c.state-state.result.now (c.state-state.ensures.chain (network_on genesis v opened) (chain_of a.chain) whole.settled.database)
    a.mempool whole.mempool (params_of c.params.result.now) c.slot.result c.params.ensures c.slot.ensures.slot c.args.bytes.now s has.chain txs (option_map detail_of told) is)
    c.explain.ensures.told
