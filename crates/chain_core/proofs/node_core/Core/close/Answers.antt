use Rattle.std.proofs.Common.{take}
use Rattle.blockstore.specs.Stored.{blocks_of}
use Rattle.model.specs.History.{Close}
use Rattle.chain.specs.Chained.{chain_of}
use Rattle.chain_core.specs.Views.{close_reply_of}
use Rattle.chain_core.specs.Inside.{held}
use Rattle.chain_core.proofs.Reached.{reached_on}
use Rattle.chain_core.proofs.FollowerCalls.{closed}
use Rattle.chain_core.proofs.node_core.Core.close.Goals as goal

pub invariant_of-self : goal.invariant_of-self
invariant_of-self g c = record {
  opens = c.self.invariant.opens;
  whole = c.self.invariant.whole;
  reached = reached_on g.S.SigScheme.verifies (held c.self.inside) c.args.self.now _ (Close c.args.id.number) (close_reply_of c.close.result) c.self.view_is c.self.invariant.reached
      (closed g.S.SigScheme.verifies c.self.inside.genesis (take c.self.inside.chain_db.opened (chain_of c.self.inside.chain_db.chain)) (blocks_of c.self.inside.chain_db.store) (chain_of c.self.inside.chain_db.chain) c.self.inside.chain_db.mempool.waiting.txs c.self.inside.followers c.close.new.self c.args.id.number c.args.self.now c.close.result
      c.self.view_is c.close.ensures.ok c.close.ensures.unknown c.close.ensures.err);
}

pub returns-clause-step : goal.returns-clause-step
returns-clause-step g c =
    closed g.S.SigScheme.verifies c.self.inside.genesis (take c.self.inside.chain_db.opened (chain_of c.self.inside.chain_db.chain)) (blocks_of c.self.inside.chain_db.store) (chain_of c.self.inside.chain_db.chain) c.self.inside.chain_db.mempool.waiting.txs c.self.inside.followers c.close.new.self c.args.id.number c.args.self.now c.close.result
    c.self.view_is c.close.ensures.ok c.close.ensures.unknown c.close.ensures.err
