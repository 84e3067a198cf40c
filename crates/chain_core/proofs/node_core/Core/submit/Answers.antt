use Rattle.std.proofs.Common.{subst, List, take}
use Rattle.model.specs.Block.{Block}
use Rattle.model.specs.Chain.{IsOpening}
use Rattle.model.specs.Ledger.{network_on}
use Rattle.blockstore.specs.Stored.{blocks_of}
use Rattle.chain.specs.Chained.{chain_of}
use Rattle.chain_core.specs.ChainDbs.{IsWhole}
use Rattle.chain_core.specs.Steps.{IsReached}
use Rattle.model.specs.History.{Submit}
use Rattle.chain_core.specs.Views.{submit_reply_of}
use Rattle.chain_core.specs.Inside.{held}
use Rattle.chain_core.specs.Held.{held_of, network_held}
use Rattle.chain_core.proofs.Arrivals.{submitted}
use Rattle.chain_core.proofs.Reached.{opened_is, reached_on, steps_on}
use Rattle.chain_core.proofs.node_core.Core.submit.Goals as goal

pub invariant_of-self : goal.invariant_of-self
invariant_of-self g c =
    let whole = c.submit.ensures.whole c.self.inside.genesis (take c.self.inside.chain_db.opened (chain_of c.self.inside.chain_db.chain)) c.self.invariant.whole in
    record {
      opens = subst (λ (o : List Block). IsOpening (network_on c.self.inside.genesis g.S.SigScheme.verifies o)) (opened_is (network_held (held c.self.inside) g.S.SigScheme.verifies) c.submit.new.self (whole)) c.self.invariant.opens;
      whole = subst (λ (o : List Block). IsWhole (network_on c.self.inside.genesis g.S.SigScheme.verifies o) c.submit.new.self) (opened_is (network_held (held c.self.inside) g.S.SigScheme.verifies) c.submit.new.self (whole)) (whole);
      reached = subst (λ (o : List Block). IsReached (network_on c.self.inside.genesis g.S.SigScheme.verifies o) (held_of c.self.inside.genesis o (blocks_of c.submit.new.self.store) (chain_of c.submit.new.self.chain) c.submit.new.self.mempool.waiting.txs c.self.inside.followers)) (opened_is (network_held (held c.self.inside) g.S.SigScheme.verifies) c.submit.new.self (whole))
          (reached_on g.S.SigScheme.verifies (held c.self.inside) c.args.self.now _ (Submit c.args.bytes.now) (submit_reply_of c.submit.result) c.self.view_is c.self.invariant.reached
          (submitted (network_held (held c.self.inside) g.S.SigScheme.verifies) c.self.inside.chain_db c.submit.new.self c.self.inside.followers c.args.self.now c.args.bytes.now c.submit.result
          c.self.view_is c.self.invariant.whole c.submit.ensures.ok c.submit.ensures.frame c.submit.ensures.err));
    }

pub returns-clause-step : goal.returns-clause-step
returns-clause-step g c =
    let whole = c.submit.ensures.whole c.self.inside.genesis (take c.self.inside.chain_db.opened (chain_of c.self.inside.chain_db.chain)) c.self.invariant.whole in
    steps_on g.S.SigScheme.verifies c.args.self.now (Submit c.args.bytes.now) (submit_reply_of c.submit.result) c.self.inside.genesis _ _ (blocks_of c.submit.new.self.store) (chain_of c.submit.new.self.chain) c.submit.new.self.mempool.waiting.txs c.self.inside.followers
    (opened_is (network_held (held c.self.inside) g.S.SigScheme.verifies) c.submit.new.self whole)
    (submitted (network_held (held c.self.inside) g.S.SigScheme.verifies) c.self.inside.chain_db c.submit.new.self c.self.inside.followers c.args.self.now c.args.bytes.now c.submit.result
    c.self.view_is c.self.invariant.whole c.submit.ensures.ok c.submit.ensures.frame c.submit.ensures.err)
