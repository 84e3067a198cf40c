use Rattle.std.proofs.Common.{◌≡◌, List, take, subst}
use Rattle.std.specs.Prelude.{IfOk}
use Rattle.std.proofs.lemmas.Result.{IfOk-weaker}
use Rattle.model.specs.Block.{Block}
use Rattle.model.specs.Genesis.{Genesis}
use Rattle.model.specs.Ledger.{network_on}
use Rattle.model.specs.History.{State}
use Rattle.model.specs.Evaluating.{IsEvaluation}
use Rattle.mempool.specs.View.{evaluation_of}
use Rattle.chain.specs.Chained.{chain_of}
use Rattle.chain_core.specs.ChainDbs.{IsWhole, HasState}
use Rattle.chain_core.specs.Held.{Held, Stands, network_held}
use Rattle.chain_core.specs.Inside.{held}
use Rattle.chain_core.proofs.Arrivals.{state_of}
use Rattle.chain_core.proofs.node_core.Core.evaluate.Goals as goal

pub returns-clause-told : goal.returns-clause-told
returns-clause-told g c =
    let v = g.S.SigScheme.verifies in
    let a = c.self.inside in
    let opened = take a.chain_db.opened (chain_of a.chain_db.chain) in
    subst (λ (h : Held). IfOk c.evaluate.result (λ told. (s : State) → Stands h s → IsEvaluation (network_held h v) s c.args.slot c.args.bytes.now (evaluation_of told))) c.self.view_is
    (IfOk-weaker c.evaluate.result (λ told. (genesis : Genesis) (opened : List Block) (s : State) → IsWhole (network_on genesis v opened) a.chain_db → HasState (network_on genesis v opened) a.chain_db s → a.chain_db.mempool.waiting.txs ≡ s.mempool
    → IsEvaluation (network_on genesis v opened) s c.args.slot c.args.bytes.now (evaluation_of told))
    (λ told. (s : State) → Stands (held a) s → IsEvaluation (network_held (held a) v) s c.args.slot c.args.bytes.now (evaluation_of told))
    (λ told is s stands. is a.genesis opened s c.self.invariant.whole (state_of (network_held (held a) v) a.chain_db a.followers s stands) stands.mempool)
    c.evaluate.ensures.told)
