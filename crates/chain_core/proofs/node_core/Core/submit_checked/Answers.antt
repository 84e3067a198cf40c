use Rattle.std.proofs.Common.{take, ℕ, List, subst}
use Rattle.std.specs.Prelude.{OnErr}
use Rattle.std.proofs.lemmas.Result.{IfOk-weaker, on_err_weaker}
use Rattle.model.specs.Genesis.{Genesis}
use Rattle.model.specs.Cbor.{text_of}
use Rattle.model.specs.Transaction.{SpellsTransaction, item_of_transaction}
use Rattle.model.specs.Block.{Block}
use Rattle.model.specs.Chain.{IsOpening}
use Rattle.model.specs.Ledger.{network_on}
use Rattle.blockstore.specs.Stored.{blocks_of}
use Rattle.chain.specs.Chained.{chain_of}
use Rattle.chain_core.specs.Steps.{IsReached}
use Rattle.model.specs.History.{Submit}
use Rattle.mempool.specs.View.{reply_of}
use Rattle.chain_core.specs.Held.{Held, held_of, network_held}
use Rattle.chain_core.specs.Inside.{held}
use Rattle.chain_core.specs.Views.{submit_reply_of}
use Rattle.chain_core.specs.ChainDbs.{IsWhole, IsTaken}
use Rattle.chain_core.specs.Mempools.{IsWantOf}
use Rattle.chain_core.proofs.Arrivals.{submitted}
use Rattle.chain_core.proofs.Reached.{opened_is, reached_on, steps_on}
use Rattle.chain_core.proofs.node_core.Core.submit_checked.Goals as goal

pub invariant_of-self : goal.invariant_of-self
invariant_of-self g c =
    let whole = c.submit_checked.ensures.whole c.self.inside.genesis (take c.self.inside.chain_db.opened (chain_of c.self.inside.chain_db.chain)) c.self.invariant.whole in
    record {
      opens = subst (λ (o : List Block). IsOpening (network_on c.self.inside.genesis g.S.SigScheme.verifies o)) (opened_is (network_held (held c.self.inside) g.S.SigScheme.verifies) c.submit_checked.new.self (whole)) c.self.invariant.opens;
      whole = subst (λ (o : List Block). IsWhole (network_on c.self.inside.genesis g.S.SigScheme.verifies o) c.submit_checked.new.self) (opened_is (network_held (held c.self.inside) g.S.SigScheme.verifies) c.submit_checked.new.self (whole)) (whole);
      reached = subst (λ (o : List Block). IsReached (network_on c.self.inside.genesis g.S.SigScheme.verifies o) (held_of c.self.inside.genesis o (blocks_of c.submit_checked.new.self.store) (chain_of c.submit_checked.new.self.chain) c.submit_checked.new.self.mempool.waiting.txs c.self.inside.followers)) (opened_is (network_held (held c.self.inside) g.S.SigScheme.verifies) c.submit_checked.new.self (whole))
          (reached_on g.S.SigScheme.verifies (held c.self.inside) c.args.self.now _ (Submit (text_of (item_of_transaction c.args.tx))) (submit_reply_of c.submit_checked.result) c.self.view_is c.self.invariant.reached
          (submitted (network_held (held c.self.inside) g.S.SigScheme.verifies) c.self.inside.chain_db c.submit_checked.new.self c.self.inside.followers c.args.self.now (text_of (item_of_transaction c.args.tx)) c.submit_checked.result c.self.view_is c.self.invariant.whole
          (IfOk-weaker c.submit_checked.result (λ reply. (genesis : Genesis) (opened : List Block) → IsWhole (network_on genesis g.S.SigScheme.verifies opened) c.self.inside.chain_db → (bytes : List ℕ) → SpellsTransaction c.args.tx bytes → IsTaken (network_on genesis g.S.SigScheme.verifies opened) c.self.inside.chain_db bytes (reply_of reply) c.submit_checked.new.self)
          (λ reply. (genesis : Genesis) (opened : List Block) → IsWhole (network_on genesis g.S.SigScheme.verifies opened) c.self.inside.chain_db → IsTaken (network_on genesis g.S.SigScheme.verifies opened) c.self.inside.chain_db (text_of (item_of_transaction c.args.tx)) (reply_of reply) c.submit_checked.new.self) (λ reply p. λ genesis opened whole. p genesis opened whole (text_of (item_of_transaction c.args.tx)) c.submit_checked.ensures.spelled) c.submit_checked.ensures.ok)
          c.submit_checked.ensures.frame c.submit_checked.ensures.err));
    }

pub returns-clause-step : goal.returns-clause-step
returns-clause-step g c = λ bytes spelled.
    let verifies = g.S.SigScheme.verifies in
    let old = c.self.inside.chain_db in
    let new = c.submit_checked.new.self in
    let whole = c.submit_checked.ensures.whole c.self.inside.genesis (take old.opened (chain_of old.chain)) c.self.invariant.whole in
    steps_on verifies c.args.self.now (Submit bytes) (submit_reply_of c.submit_checked.result) c.self.inside.genesis _ _ (blocks_of new.store) (chain_of new.chain) new.mempool.waiting.txs c.self.inside.followers
    (opened_is (network_held (held c.self.inside) verifies) new whole)
    (submitted (network_held (held c.self.inside) verifies) old new c.self.inside.followers c.args.self.now bytes c.submit_checked.result c.self.view_is c.self.invariant.whole
    (IfOk-weaker c.submit_checked.result (λ reply. (genesis : Genesis) (opened : List Block) → IsWhole (network_on genesis verifies opened) old → (bytes : List ℕ) → SpellsTransaction c.args.tx bytes → IsTaken (network_on genesis verifies opened) old bytes (reply_of reply) new)
    (λ reply. (genesis : Genesis) (opened : List Block) → IsWhole (network_on genesis verifies opened) old → IsTaken (network_on genesis verifies opened) old bytes (reply_of reply) new) (λ reply p. λ genesis opened whole. p genesis opened whole bytes spelled) c.submit_checked.ensures.ok)
    c.submit_checked.ensures.frame c.submit_checked.ensures.err)

pub returns-clause-memory : goal.returns-clause-memory
returns-clause-memory g c =
    let verifies = g.S.SigScheme.verifies in
    let genesis = c.self.inside.genesis in
    subst (λ (h : Held). OnErr c.submit_checked.result ((bytes : List ℕ) → SpellsTransaction c.args.tx bytes → IsWantOf (network_held h verifies) h.chain h.mempool bytes)) c.self.view_is
    (on_err_weaker c.submit_checked.result (λ want. want genesis (take c.self.inside.chain_db.opened (chain_of c.self.inside.chain_db.chain)) c.self.invariant.whole) c.submit_checked.ensures.memory)
