use Rattle.std.proofs.Common.{◌+◌, ℕ, List}
use Rattle.std.proofs.lemmas.Result.{IfOk-weaker, on_err_weaker}
use Rattle.model.specs.Block.{Block}
use Rattle.model.specs.Genesis.{Genesis}
use Rattle.model.specs.Cbor.{text_of}
use Rattle.model.specs.Transaction.{SpellsTransaction, item_of_transaction}
use Rattle.model.specs.Ledger.{network_on}
use Rattle.utxo_rules.specs.View.{params_of}
use Rattle.mempool.specs.Calls.{IsSubmissionOf}
use Rattle.mempool.specs.View.{reply_of}
use Rattle.chain.specs.Chained.{chain_of}
use Rattle.chain_core.specs.declared.chain_db.ChainDb.{ChainDb}
use Rattle.chain_core.specs.ChainDbs.{IsWhole, IsTaken}
use Rattle.chain_core.proofs.Adding.{taken, whole_after}
use Rattle.chain_core.proofs.Mempools.{wants}
use Rattle.chain_core.proofs.chain_db.ChainDb.submit_checked.Goals as goal

pub returns-clause-ok : goal.returns-clause-ok
returns-clause-ok g c =
    let verifies = g.S.SigScheme.verifies in
    let old = c.args.self.now in
    let new : ChainDb g.row.S.Denot = record old { mempool = c.submit_checked.new.self } in
    IfOk-weaker c.submit_checked.result (λ reply. IsSubmissionOf verifies (params_of c.params.result.now) (c.slot.result + 1) old.mempool c.args.tx (reply_of reply) c.submit_checked.new.self)
    (λ reply. (genesis : Genesis) (opened : List Block) → IsWhole (network_on genesis verifies opened) old → (bytes : List ℕ) → SpellsTransaction c.args.tx bytes → IsTaken (network_on genesis verifies opened) old bytes (reply_of reply) new)
    (λ reply p. λ genesis opened whole bytes spelled. taken (network_on genesis verifies opened) old c.submit_checked.new.self c.state-state.result.now (params_of c.params.result.now) c.slot.result bytes (reply_of reply) whole
    (c.state-state.ensures.chain (network_on genesis verifies opened) (chain_of old.chain) whole.settled.database) c.params.ensures c.slot.ensures.slot (p bytes spelled))
    c.submit_checked.ensures.ok

pub returns-clause-whole : goal.returns-clause-whole
returns-clause-whole g c = λ genesis opened whole.
    let verifies = g.S.SigScheme.verifies in
    let old = c.args.self.now in
    let text = text_of (item_of_transaction c.args.tx) in
    let new : ChainDb g.row.S.Denot = record old { mempool = c.submit_checked.new.self } in
    whole_after (network_on genesis verifies opened) old c.submit_checked.new.self text c.submit_checked.result
    (IfOk-weaker c.submit_checked.result (λ reply. (genesis : Genesis) (opened : List Block) → IsWhole (network_on genesis verifies opened) old → (bytes : List ℕ) → SpellsTransaction c.args.tx bytes → IsTaken (network_on genesis verifies opened) old bytes (reply_of reply) new)
    (λ reply. IsTaken (network_on genesis verifies opened) old text (reply_of reply) new) (λ reply p. p genesis opened whole text c.submit_checked.ensures.spelled) (returns-clause-ok g c)) c.submit_checked.ensures.err whole

pub returns-clause-memory : goal.returns-clause-memory
returns-clause-memory g c =
    let verifies = g.S.SigScheme.verifies in
    let old = c.args.self.now in
    on_err_weaker c.submit_checked.result
    (λ want genesis opened whole bytes spelled. wants (network_on genesis verifies opened) (chain_of old.chain) c.state-state.result.now (c.state-state.ensures.chain (network_on genesis verifies opened) (chain_of old.chain) whole.settled.database)
    old.mempool whole.mempool (params_of c.params.result.now) c.slot.result c.params.ensures c.slot.ensures.slot bytes (want bytes spelled))
    c.submit_checked.ensures.memory
