use Rattle.std.proofs.Common.{take}
use Rattle.blockstore.specs.Stored.{blocks_of}
use Rattle.model.specs.History.{Open}
use Rattle.chain.specs.Chained.{chain_of}
use Rattle.chain_core.specs.Views.{open_reply_of}
use Rattle.chain_core.specs.Inside.{held}
use Rattle.chain_core.proofs.Reached.{reached_on}
use Rattle.chain_core.proofs.FollowerCalls.{opened, want_at_open}
use Rattle.chain_core.proofs.node_core.Core.open.Goals as goal

pub invariant_of-self : goal.invariant_of-self
invariant_of-self g c = record {
  opens = c.self.invariant.opens;
  whole = c.self.invariant.whole;
  reached = reached_on g.S.SigScheme.verifies (held c.self.inside) c.args.self.now _ Open (open_reply_of c.open.result) c.self.view_is c.self.invariant.reached
      (opened g.S.SigScheme.verifies c.self.inside.genesis (take c.self.inside.chain_db.opened (chain_of c.self.inside.chain_db.chain)) (blocks_of c.self.inside.chain_db.store) (chain_of c.self.inside.chain_db.chain) c.self.inside.chain_db.mempool.waiting.txs c.self.inside.followers c.open.new.self c.args.self.now c.open.result
      c.self.view_is c.open.ensures.ok c.open.ensures.fault c.open.ensures.err);
}

pub returns-clause-step : goal.returns-clause-step
returns-clause-step g c =
    opened g.S.SigScheme.verifies c.self.inside.genesis (take c.self.inside.chain_db.opened (chain_of c.self.inside.chain_db.chain)) (blocks_of c.self.inside.chain_db.store) (chain_of c.self.inside.chain_db.chain) c.self.inside.chain_db.mempool.waiting.txs c.self.inside.followers c.open.new.self c.args.self.now c.open.result
    c.self.view_is c.open.ensures.ok c.open.ensures.fault c.open.ensures.err

pub returns-clause-memory : goal.returns-clause-memory
returns-clause-memory g c =
    want_at_open g.S.SigScheme.verifies c.self.inside.genesis (take c.self.inside.chain_db.opened (chain_of c.self.inside.chain_db.chain)) (blocks_of c.self.inside.chain_db.store) (chain_of c.self.inside.chain_db.chain) c.self.inside.chain_db.mempool.waiting.txs c.self.inside.followers c.args.self.now c.open.result c.self.view_is c.open.ensures.fault
