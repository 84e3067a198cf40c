use Rattle.std.proofs.Common.{List, ap, subst, inl, inr}
use Rattle.model.specs.Block.{Block}
use Rattle.model.specs.Chain.{IsOpening}
use Rattle.model.specs.Ledger.{network_on}
use Rattle.model.specs.History.{Discard}
use Rattle.blockstore.specs.Stored.{blocks_of}
use Rattle.chain.specs.Chained.{chain_of}
use Rattle.chain_core.specs.ChainDbs.{IsWhole}
use Rattle.chain_core.specs.Steps.{IsReached}
use Rattle.chain_core.specs.Views.{discard_reply_of}
use Rattle.chain_core.specs.Inside.{held}
use Rattle.chain_core.specs.Held.{held_of, network_held}
use Rattle.chain_core.proofs.Discards.{left_by}
use Rattle.chain_core.proofs.Reached.{opened_is, reached_on, steps_on}
use Rattle.chain_core.proofs.PastHashes.{whole_indexed}
use Rattle.chain_core.proofs.node_core.Core.discard.Goals as goal
use Rattle.chain_core.proofs.node_core.Core.discard.Goals.{then-discard, else-discard}

pub invariant_of-self : goal.invariant_of-self
invariant_of-self g c =
    let v = g.S.SigScheme.verifies in
    let network = network_held (held c.self.inside) v in
    let new = c.discard.new.self in
    let left = left_by network c.self.inside.chain_db new c.self.inside.followers c.args.self.now c.args.hash.bytes c.discard.result (discard_reply_of c.if-discard.result) c.self.view_is c.self.invariant.whole
    (λ yes s has. c.discard.ensures.discarded yes network s c.self.invariant.whole has) (λ no s has. c.discard.ensures.none no network s c.self.invariant.whole has) c.discard.ensures.same c.discard.ensures.frame
    (elim c.if-discard.branch [ then-discard w ↦ inl (w.if-discard.true, ap discard_reply_of w.result-is) | else-discard w ↦ inr (w.if-discard.false, ap discard_reply_of w.result-is) ]) in
    let opened = opened_is network new left.whole in
    record {
      opens = subst (λ (o : List Block). IsOpening (network_on c.self.inside.genesis v o)) opened c.self.invariant.opens;
      whole = subst (λ (o : List Block). IsWhole (network_on c.self.inside.genesis v o) new) opened left.whole;
      reached = subst (λ (o : List Block). IsReached (network_on c.self.inside.genesis v o) (held_of c.self.inside.genesis o (blocks_of new.store) (chain_of new.chain) new.mempool.waiting.txs c.self.inside.followers)) opened
          (reached_on v (held c.self.inside) c.args.self.now _ (Discard c.args.hash.bytes) (discard_reply_of c.if-discard.result) c.self.view_is c.self.invariant.reached left.steps);
    }

pub returns-clause-step : goal.returns-clause-step
returns-clause-step g c =
    let v = g.S.SigScheme.verifies in
    let network = network_held (held c.self.inside) v in
    let new = c.discard.new.self in
    let left = left_by network c.self.inside.chain_db new c.self.inside.followers c.args.self.now c.args.hash.bytes c.discard.result (discard_reply_of c.if-discard.result) c.self.view_is c.self.invariant.whole
    (λ yes s has. c.discard.ensures.discarded yes network s c.self.invariant.whole has) (λ no s has. c.discard.ensures.none no network s c.self.invariant.whole has) c.discard.ensures.same c.discard.ensures.frame
    (elim c.if-discard.branch [ then-discard w ↦ inl (w.if-discard.true, ap discard_reply_of w.result-is) | else-discard w ↦ inr (w.if-discard.false, ap discard_reply_of w.result-is) ]) in
    steps_on v c.args.self.now (Discard c.args.hash.bytes) (discard_reply_of c.if-discard.result) c.self.inside.genesis _ _ (blocks_of new.store) (chain_of new.chain) new.mempool.waiting.txs c.self.inside.followers
    (opened_is network new left.whole) left.steps

pub discard-requires : goal.discard-requires
discard-requires g c = whole_indexed (network_held (held c.self.inside) g.S.SigScheme.verifies) c.self.inside.chain_db c.self.invariant.whole
