use Rattle.std.proofs.Common.{take, ◌≡◌, None, Some, Ok, true, false, map, refl, subst, rules}
use Rattle.blockstore.specs.Stored.{blocks_of}
use Rattle.model.specs.History.{Forward}
use Rattle.chain.specs.Chained.{chain_of}
use Rattle.chain_core.specs.Views.{forward_reply_of}
use Rattle.chain_core.specs.Inside.{held}
use Rattle.chain_core.proofs.Reached.{reached_on}
use Rattle.ledgerdb.proofs.ForCallers.{database_valid}
use Rattle.ident.specs.PointView.{point_of}
use Rattle.chain_core.specs.Held.{Held, Stands, network_held}
use Rattle.chain_core.proofs.FollowerCalls.{one_open, none_open, forward_unknown, forwarded_to, forwarded_nowhere}
use Rattle.chain_core.proofs.node_core.Core.forward.Goals as goal

pub returns-then-not-is_open-clause-step : goal.returns-then-not-is_open-clause-step
returns-then-not-is_open-clause-step g c = λ s stands.
    let closed : c.is_open.result ≡ false = search rules in
    let step = forward_unknown g.S.SigScheme.verifies c.self.inside.genesis (take c.self.inside.chain_db.opened (chain_of c.self.inside.chain_db.chain)) (blocks_of c.self.inside.chain_db.store) (chain_of c.self.inside.chain_db.chain) c.self.inside.chain_db.mempool.waiting.txs c.self.inside.followers c.self.inside.followers c.args.id.number (map point_of c.args.points.now) c.args.self.now (record {}) c.self.view_is (none_open c.self.inside.followers c.args.id.number c.is_open.result c.is_open.ensures closed) refl s stands in
    (step.0, step.1, subst (λ (h : Held). Stands h step.0) c.self.view_is step.2)

pub invariant_of-self : goal.invariant_of-self
invariant_of-self g c = record {
  opens = c.self.invariant.opens;
  whole = c.self.invariant.whole;
  reached = reached_on g.S.SigScheme.verifies (held c.self.inside) c.args.self.now _ (Forward c.args.id.number (map point_of c.args.points.now)) (forward_reply_of (Ok (Some c.in-Some.point))) c.self.view_is c.self.invariant.reached
      (forwarded_to g.S.SigScheme.verifies c.self.inside.genesis (take c.self.inside.chain_db.opened (chain_of c.self.inside.chain_db.chain)) (blocks_of c.self.inside.chain_db.store) (chain_of c.self.inside.chain_db.chain) c.self.inside.chain_db.mempool.waiting.txs c.self.inside.followers c.forward.new.self c.args.id.number (map point_of c.args.points.now) c.args.self.now (chain_of c.self.inside.chain_db.chain) c.in-Some.point c.first_on-found.result c.self.view_is
      (database_valid (network_held (held c.self.inside) g.S.SigScheme.verifies) (chain_of c.self.inside.chain_db.chain) c.self.inside.chain_db.db c.self.invariant.whole.settled.database).linked refl c.first_on-found.ensures c.in-Some.is c.in_ok-forward.ensures.ok);
}

pub returns-in_ok-forward-clause-step : goal.returns-in_ok-forward-clause-step
returns-in_ok-forward-clause-step g c =
    forwarded_to g.S.SigScheme.verifies c.self.inside.genesis (take c.self.inside.chain_db.opened (chain_of c.self.inside.chain_db.chain)) (blocks_of c.self.inside.chain_db.store) (chain_of c.self.inside.chain_db.chain) c.self.inside.chain_db.mempool.waiting.txs c.self.inside.followers c.forward.new.self c.args.id.number (map point_of c.args.points.now) c.args.self.now (chain_of c.self.inside.chain_db.chain) c.in-Some.point c.first_on-found.result c.self.view_is
    (database_valid (network_held (held c.self.inside) g.S.SigScheme.verifies) (chain_of c.self.inside.chain_db.chain) c.self.inside.chain_db.db c.self.invariant.whole.settled.database).linked refl c.first_on-found.ensures c.in-Some.is c.in_ok-forward.ensures.ok

pub returns-in_default-clause-step : goal.returns-in_default-clause-step
returns-in_default-clause-step g c = λ s stands.
    let opened : c.is_open.result ≡ true = search rules in
    let none : c.first_on-found.result ≡ None = search rules in
    let step = forwarded_nowhere g.S.SigScheme.verifies c.self.inside.genesis (take c.self.inside.chain_db.opened (chain_of c.self.inside.chain_db.chain)) (blocks_of c.self.inside.chain_db.store) (chain_of c.self.inside.chain_db.chain) c.self.inside.chain_db.mempool.waiting.txs c.self.inside.followers c.self.inside.followers c.args.id.number (map point_of c.args.points.now) c.args.self.now (chain_of c.self.inside.chain_db.chain) c.first_on-found.result c.self.view_is refl c.first_on-found.ensures none
    (one_open c.self.inside.followers c.args.id.number c.is_open.result c.is_open.ensures opened) refl s stands in
    (step.0, step.1, subst (λ (h : Held). Stands h step.0) c.self.view_is step.2)
