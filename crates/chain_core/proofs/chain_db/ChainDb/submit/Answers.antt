use Rattle.std.proofs.Common.{◌+◌, List}
use Rattle.std.proofs.lemmas.Result.{IfOk-weaker}
use Rattle.model.specs.Block.{Block}
use Rattle.model.specs.Genesis.{Genesis}
use Rattle.model.specs.Ledger.{network_on}
use Rattle.utxo_rules.specs.View.{params_of}
use Rattle.mempool.specs.Calls.{IsSubmission}
use Rattle.mempool.specs.View.{reply_of}
use Rattle.chain.specs.Chained.{chain_of}
use Rattle.chain_core.specs.declared.chain_db.ChainDb.{ChainDb}
use Rattle.chain_core.specs.ChainDbs.{IsWhole, IsTaken}
use Rattle.chain_core.proofs.Adding.{taken, whole_after}
use Rattle.chain_core.proofs.chain_db.ChainDb.submit.Goals as goal

pub returns-clause-ok : goal.returns-clause-ok
returns-clause-ok g c =
    let verifies = g.S.SigScheme.verifies in
    let old = c.args.self.now in
    let new : ChainDb g.row.S.Denot = record old { mempool = c.submit.new.self } in
    IfOk-weaker c.submit.result (λ reply. IsSubmission verifies (params_of c.params.result.now) (c.slot.result + 1) old.mempool c.args.bytes.now (reply_of reply) c.submit.new.self)
    (λ reply. (genesis : Genesis) (opened : List Block) → IsWhole (network_on genesis verifies opened) old → IsTaken (network_on genesis verifies opened) old c.args.bytes.now (reply_of reply) new)
    (λ reply p. λ genesis opened whole. taken (network_on genesis verifies opened) old c.submit.new.self c.state-state.result.now (params_of c.params.result.now) c.slot.result c.args.bytes.now (reply_of reply) whole
    (c.state-state.ensures.chain (network_on genesis verifies opened) (chain_of old.chain) whole.settled.database) c.params.ensures c.slot.ensures.slot p)
    c.submit.ensures.ok

pub returns-clause-whole : goal.returns-clause-whole
returns-clause-whole g c = λ genesis opened whole.
    let verifies = g.S.SigScheme.verifies in
    let old = c.args.self.now in
    let new : ChainDb g.row.S.Denot = record old { mempool = c.submit.new.self } in
    whole_after (network_on genesis verifies opened) old c.submit.new.self c.args.bytes.now c.submit.result
    (IfOk-weaker c.submit.result (λ reply. (genesis : Genesis) (opened : List Block) → IsWhole (network_on genesis verifies opened) old → IsTaken (network_on genesis verifies opened) old c.args.bytes.now (reply_of reply) new)
    (λ reply. IsTaken (network_on genesis verifies opened) old c.args.bytes.now (reply_of reply) new) (λ reply p. p genesis opened whole) (returns-clause-ok g c)) c.submit.ensures.err whole
