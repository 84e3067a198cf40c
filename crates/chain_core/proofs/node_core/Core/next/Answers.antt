use Rattle.std.proofs.Common.{take, Ok, refl, sym, subst, rules}
use Rattle.followers.specs.Places.{Places}
use Rattle.blockstore.specs.Stored.{blocks_of}
use Rattle.model.specs.History.{Next}
use Rattle.chain.specs.Chained.{chain_of}
use Rattle.chain_core.specs.Views.{next_reply_of}
use Rattle.chain_core.specs.Inside.{held}
use Rattle.chain_core.proofs.Reached.{reached_on}
use Rattle.chain_core.specs.Held.{Held, Stands, held_of, network_held}
use Rattle.chain_core.specs.Steps.{IsReached}
use Rattle.chain_core.proofs.FollowerCalls.{instructed_by, next_unknown, want_at_next}
use Rattle.chain_core.proofs.node_core.Core.next.Goals as goal

pub returns-in_err-due-clause-step : goal.returns-in_err-due-clause-step
returns-in_err-due-clause-step g c = λ s stands.
    let step = next_unknown g.S.SigScheme.verifies c.self.inside.genesis (take c.self.inside.chain_db.opened (chain_of c.self.inside.chain_db.chain)) (blocks_of c.self.inside.chain_db.store) (chain_of c.self.inside.chain_db.chain) c.self.inside.chain_db.mempool.waiting.txs c.self.inside.followers c.self.inside.followers c.args.id.number c.args.self.now c.from_residual.result c.self.view_is (search (rules, c.from_residual.ensures)) c.in_err-due.ensures.unknown refl s stands in
    (step.0, step.1, subst (λ (h : Held). Stands h step.0) c.self.view_is step.2)

pub returns-in_err-instruction-clause-memory : goal.returns-in_err-instruction-clause-memory
returns-in_err-instruction-clause-memory g c =
    want_at_next g.S.SigScheme.verifies c.self.inside.genesis (take c.self.inside.chain_db.opened (chain_of c.self.inside.chain_db.chain)) (blocks_of c.self.inside.chain_db.store) (chain_of c.self.inside.chain_db.chain) c.self.inside.chain_db.mempool.waiting.txs c.self.inside.followers c.args.id.number c.args.self.now c.height-height.result c.in_ok-due.due c.from_residual-in_err-instruction.result c.self.view_is c.height-height.ensures c.in_ok-due.ensures.ok c.in_err-instruction.ensures.memory

pub invariant_of-self : goal.invariant_of-self
invariant_of-self g c = record {
  opens = c.self.invariant.opens;
  whole = c.self.invariant.whole;
  reached = subst (λ (p : Places). IsReached (network_held (held c.self.inside) g.S.SigScheme.verifies) (held_of c.self.inside.genesis (take c.self.inside.chain_db.opened (chain_of c.self.inside.chain_db.chain)) (blocks_of c.self.inside.chain_db.store) (chain_of c.self.inside.chain_db.chain) c.self.inside.chain_db.mempool.waiting.txs p)) (sym c.in_err-next.ensures.err) c.self.invariant.reached;
}

pub invariant_of-self-2 : goal.invariant_of-self-2
invariant_of-self-2 g c = record {
  opens = c.self.invariant.opens;
  whole = c.self.invariant.whole;
  reached = reached_on g.S.SigScheme.verifies (held c.self.inside) c.args.self.now _ (Next c.args.id.number) (next_reply_of (Ok c.in_ok-instruction.instruction)) c.self.view_is c.self.invariant.reached
      (instructed_by g.S.SigScheme.verifies c.self.inside.genesis (take c.self.inside.chain_db.opened (chain_of c.self.inside.chain_db.chain)) (blocks_of c.self.inside.chain_db.store) (chain_of c.self.inside.chain_db.chain) c.self.inside.chain_db.mempool.waiting.txs c.self.inside.followers c.next.new.self c.args.id.number c.args.self.now c.height-height.result (chain_of c.self.inside.chain_db.chain) c.in_ok-due.due c.in_ok-next.field-0 c.in_ok-instruction.instruction c.self.view_is c.height-height.ensures refl
      c.in_ok-due.ensures.ok c.in_ok-instruction.ensures.ok c.in_ok-next.ensures.ok);
}

pub returns-clause-step : goal.returns-clause-step
returns-clause-step g c =
    instructed_by g.S.SigScheme.verifies c.self.inside.genesis (take c.self.inside.chain_db.opened (chain_of c.self.inside.chain_db.chain)) (blocks_of c.self.inside.chain_db.store) (chain_of c.self.inside.chain_db.chain) c.self.inside.chain_db.mempool.waiting.txs c.self.inside.followers c.next.new.self c.args.id.number c.args.self.now c.height-height.result (chain_of c.self.inside.chain_db.chain) c.in_ok-due.due c.in_ok-next.field-0 c.in_ok-instruction.instruction c.self.view_is c.height-height.ensures refl
    c.in_ok-due.ensures.ok c.in_ok-instruction.ensures.ok c.in_ok-next.ensures.ok

pub instruction_for-requires-clause-gone : goal.instruction_for-requires-clause-gone
instruction_for-requires-clause-gone g c = c.self.invariant.whole.gone
