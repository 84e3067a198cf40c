use Rattle.std.proofs.Common.{take, refl, rules}
use Rattle.blockstore.specs.Stored.{blocks_of}
use Rattle.chain.specs.Chained.{chain_of}
use Rattle.chain_core.proofs.FollowerCalls.{peek_of, peek_nothing, peeked, next_unknown, want_at_next}
use Rattle.chain_core.proofs.node_core.Core.peek.Goals as goal

pub returns-in_err-due-clause-step : goal.returns-in_err-due-clause-step
returns-in_err-due-clause-step g c =
    let verifies = g.S.SigScheme.verifies in
    let a = c.self.inside in
    let opened = take a.chain_db.opened (chain_of a.chain_db.chain) in
    peek_of verifies a.genesis opened (blocks_of a.chain_db.store) (chain_of a.chain_db.chain) a.chain_db.mempool.waiting.txs a.followers c.args.id.number c.args.self.now c.from_residual.result
    (next_unknown verifies a.genesis opened (blocks_of a.chain_db.store) (chain_of a.chain_db.chain) a.chain_db.mempool.waiting.txs a.followers a.followers c.args.id.number c.args.self.now c.from_residual.result c.self.view_is (search (rules, c.from_residual.ensures)) c.in_err-due.ensures.unknown refl)

pub returns-in_err-instruction-clause-step : goal.returns-in_err-instruction-clause-step
returns-in_err-instruction-clause-step g c =
    let a = c.self.inside in
    peek_nothing g.S.SigScheme.verifies a.genesis (take a.chain_db.opened (chain_of a.chain_db.chain)) (blocks_of a.chain_db.store) (chain_of a.chain_db.chain) a.chain_db.mempool.waiting.txs c.args.id.number c.args.self.now c.from_residual-in_err-instruction.result (search (rules, c.from_residual-in_err-instruction.ensures))

pub returns-in_err-instruction-clause-memory : goal.returns-in_err-instruction-clause-memory
returns-in_err-instruction-clause-memory g c =
    let a = c.self.inside in
    want_at_next g.S.SigScheme.verifies a.genesis (take a.chain_db.opened (chain_of a.chain_db.chain)) (blocks_of a.chain_db.store) (chain_of a.chain_db.chain) a.chain_db.mempool.waiting.txs a.followers c.args.id.number c.args.self.now c.height-height.result c.in_ok-due.due c.from_residual-in_err-instruction.result c.self.view_is c.height-height.ensures c.in_ok-due.ensures.ok c.in_err-instruction.ensures.memory

pub returns-clause-step : goal.returns-clause-step
returns-clause-step g c =
    let a = c.self.inside in
    peeked g.S.SigScheme.verifies a.genesis (take a.chain_db.opened (chain_of a.chain_db.chain)) (blocks_of a.chain_db.store) (chain_of a.chain_db.chain) a.chain_db.mempool.waiting.txs a.followers c.args.id.number c.args.self.now c.height-height.result (chain_of a.chain_db.chain) c.in_ok-due.due c.in_ok-instruction.instruction c.self.view_is c.height-height.ensures refl
    c.in_ok-due.ensures.ok c.in_ok-instruction.ensures.ok

pub instruction_for-requires-clause-gone : goal.instruction_for-requires-clause-gone
instruction_for-requires-clause-gone g c = c.self.invariant.whole.gone
