use Rattle.std.proofs.Common.{List, ◌≡◌, ◌-◌, ◌∙◌, None, length, sym, ap, subst, rules}
use Rattle.std.proofs.lemmas.Result.{IfOk-at_ok, IfErr-at_err}
use Rattle.block.specs.Read.{IsRead, IsBadBytes}
use Rattle.block.proofs.ForCallers.{block_begins}
use Rattle.model.specs.Block.{Block, block_text}
use Rattle.model.specs.Chain.{IsOpening}
use Rattle.model.specs.Ledger.{network_on}
use Rattle.blockstore.specs.Insertion.{IsFull}
use Rattle.blockstore.specs.Stored.{blocks_of}
use Rattle.chainsel.specs.Ready.{IsReady}
use Rattle.chain.specs.Chained.{chain_of}
use Rattle.chain_core.specs.Steps.{IsReached}
use Rattle.model.specs.History.{State, Arrive, Kept}
use Rattle.model.proofs.Results.{on_err}
use Rattle.followers.specs.Places.{moved_places}
use Rattle.chain_core.specs.ChainDbs.{IsWhole, HasState}
use Rattle.chain_core.specs.Views.{refusal_of}
use Rattle.chain_core.specs.Held.{held_of, network_held}
use Rattle.chain_core.proofs.Arrivals.{at_rest, rests, may_be_added, IsFirstRefusalAt, bad_arrival, refused_arrival, none_applies, kept_arrival}
use Rattle.chain_core.specs.Inside.{held}
use Rattle.chain_core.proofs.Adding.{whole_same}
use Rattle.chain_core.proofs.Reached.{opened_is, reached_on, reached_still, steps_on}
use Rattle.chain_core.proofs.node_core.Core.arrive.Given as given
use Rattle.chain_core.proofs.PastHashes.{whole_indexed}
use Rattle.chain_core.proofs.node_core.Core.arrive.Goals as goal
use Rattle.chain_core.proofs.node_core.Core.arrive.Goals.{In_ok-block}

pub returns-in-Err-clause-step : goal.returns-in-Err-clause-step
returns-in-Err-clause-step g c =
    bad_arrival g.S.SigScheme.verifies c.args.self.now c.args.bytes.now c.in-Err.bad c.from.result c.from.ensures (IfErr-at_err (IsBadBytes c.args.bytes.now) c.in-Err.is c.in_ok-found.ensures.bad)

pub returns-in-Some-clause-step : goal.returns-in-Some-clause-step
returns-in-Some-clause-step g c =
    refused_arrival (network_held (held c.self.inside) g.S.SigScheme.verifies) c.self.inside.chain_db c.self.inside.followers c.args.self.now c.args.bytes.now c.in-Ok.found (refusal_of c.in-Some.refusal) c.self.view_is (IfOk-at_ok (λ b. IsRead b c.args.bytes.now) c.in-Ok.is c.in_ok-found.ensures.block)
    (λ s has. c.in-Some.ensures (network_held (held c.self.inside) g.S.SigScheme.verifies) s c.in-Ok.found c.self.invariant.whole has c.bytes.ensures (c.point.ensures.number, c.point.ensures.hash))

-- the block may be put in
fits : (g : given.Over) (c : In_ok-block g) → IsReady (network_held (held c.self.inside) g.S.SigScheme.verifies) (chain_of c.self.inside.chain_db.chain) c.self.inside.chain_db.store c.self.inside.chain_db.db c.in_ok-block.block × (IsFull c.self.inside.chain_db.store (length (block_text c.in_ok-block.block)) → ⊥)
fits g c =
    let judged : IsFirstRefusalAt (network_held (held c.self.inside) g.S.SigScheme.verifies) c.self.inside.chain_db c.in_ok-block.block None = subst (λ (b : Block). IsFirstRefusalAt (network_held (held c.self.inside) g.S.SigScheme.verifies) c.self.inside.chain_db b None) (sym c.in_ok-block.ensures) (λ (s : State) (has : HasState (network_held (held c.self.inside) g.S.SigScheme.verifies) c.self.inside.chain_db s). c.in_default.ensures (network_held (held c.self.inside) g.S.SigScheme.verifies) s c.in-Ok.found c.self.invariant.whole has c.bytes.ensures (c.point.ensures.number, c.point.ensures.hash)) in
    let read : IsRead c.in_ok-block.block c.args.bytes.now = subst (λ (b : Block). IsRead b c.args.bytes.now) (sym c.in_ok-block.ensures) (IfOk-at_ok (λ b. IsRead b c.args.bytes.now) c.in-Ok.is c.in_ok-found.ensures.block) in
    may_be_added (network_held (held c.self.inside) g.S.SigScheme.verifies) c.self.inside.chain_db c.in_ok-block.block c.args.bytes.now c.self.invariant.whole read (judged (at_rest c.self.inside.chain_db) (rests (network_held (held c.self.inside) g.S.SigScheme.verifies) c.self.inside.chain_db c.self.invariant.whole))

pub add-requires-clause-ready : goal.add-requires-clause-ready
add-requires-clause-ready g c = (fits g (goal.at.add-requires-clause-ready g c).In_ok-block).0

pub add-requires-clause-room : goal.add-requires-clause-room
add-requires-clause-room g c = (fits g (goal.at.add-requires-clause-room g c).In_ok-block).1

pub invariant_of-self-2 : goal.invariant_of-self-2
invariant_of-self-2 g c =
    let judged : IsFirstRefusalAt (network_held (held c.self.inside) g.S.SigScheme.verifies) c.self.inside.chain_db c.in_ok-block.block None = subst (λ (b : Block). IsFirstRefusalAt (network_held (held c.self.inside) g.S.SigScheme.verifies) c.self.inside.chain_db b None) (sym c.in_ok-block.ensures) (λ (s : State) (has : HasState (network_held (held c.self.inside) g.S.SigScheme.verifies) c.self.inside.chain_db s). c.in_default.ensures (network_held (held c.self.inside) g.S.SigScheme.verifies) s c.in-Ok.found c.self.invariant.whole has c.bytes.ensures (c.point.ensures.number, c.point.ensures.hash)) in
    let read : IsRead c.in_ok-block.block c.args.bytes.now = subst (λ (b : Block). IsRead b c.args.bytes.now) (sym c.in_ok-block.ensures) (IfOk-at_ok (λ b. IsRead b c.args.bytes.now) c.in-Ok.is c.in_ok-found.ensures.block) in
    record {
      opens = subst (λ (o : List Block). IsOpening (network_on c.self.inside.genesis g.S.SigScheme.verifies o)) (opened_is (network_held (held c.self.inside) g.S.SigScheme.verifies) c.add.new.self (c.in_ok-change.ensures.ok.whole)) c.self.invariant.opens;
      whole = subst (λ (o : List Block). IsWhole (network_on c.self.inside.genesis g.S.SigScheme.verifies o) c.add.new.self) (opened_is (network_held (held c.self.inside) g.S.SigScheme.verifies) c.add.new.self (c.in_ok-change.ensures.ok.whole)) (c.in_ok-change.ensures.ok.whole);
      reached = subst (λ (o : List Block). IsReached (network_on c.self.inside.genesis g.S.SigScheme.verifies o) (held_of c.self.inside.genesis o (blocks_of c.add.new.self.store) (chain_of c.add.new.self.chain) c.add.new.self.mempool.waiting.txs c.moved.new.self)) (opened_is (network_held (held c.self.inside) g.S.SigScheme.verifies) c.add.new.self (c.in_ok-change.ensures.ok.whole))
          (reached_on g.S.SigScheme.verifies (held c.self.inside) c.args.self.now _ (Arrive c.args.bytes.now) (Kept c.in_ok-change.change.back c.in_ok-change.change.added) c.self.view_is c.self.invariant.reached
          (kept_arrival (network_held (held c.self.inside) g.S.SigScheme.verifies) c.self.inside.chain_db c.add.new.self c.self.inside.followers c.moved.new.self c.args.self.now c.args.bytes.now c.in_ok-block.block c.in_ok-change.change c.self.view_is read judged c.in_ok-change.ensures.ok
          (c.moved.ensures ∙ ap (λ n. moved_places (n - c.in_ok-change.change.added) c.self.inside.followers) (let size : c.len.result ≡ length (chain_of c.add.new.self.chain) = search rules in size))));
    }

pub returns-clause-step : goal.returns-clause-step
returns-clause-step g c =
    let judged : IsFirstRefusalAt (network_held (held c.self.inside) g.S.SigScheme.verifies) c.self.inside.chain_db c.in_ok-block.block None = subst (λ (b : Block). IsFirstRefusalAt (network_held (held c.self.inside) g.S.SigScheme.verifies) c.self.inside.chain_db b None) (sym c.in_ok-block.ensures) (λ (s : State) (has : HasState (network_held (held c.self.inside) g.S.SigScheme.verifies) c.self.inside.chain_db s). c.in_default.ensures (network_held (held c.self.inside) g.S.SigScheme.verifies) s c.in-Ok.found c.self.invariant.whole has c.bytes.ensures (c.point.ensures.number, c.point.ensures.hash)) in
    let read : IsRead c.in_ok-block.block c.args.bytes.now = subst (λ (b : Block). IsRead b c.args.bytes.now) (sym c.in_ok-block.ensures) (IfOk-at_ok (λ b. IsRead b c.args.bytes.now) c.in-Ok.is c.in_ok-found.ensures.block) in
    steps_on g.S.SigScheme.verifies c.args.self.now (Arrive c.args.bytes.now) (Kept c.in_ok-change.change.back c.in_ok-change.change.added) c.self.inside.genesis _ _ (blocks_of c.add.new.self.store) (chain_of c.add.new.self.chain) c.add.new.self.mempool.waiting.txs c.moved.new.self
    (opened_is (network_held (held c.self.inside) g.S.SigScheme.verifies) c.add.new.self (c.in_ok-change.ensures.ok.whole))
    (kept_arrival (network_held (held c.self.inside) g.S.SigScheme.verifies) c.self.inside.chain_db c.add.new.self c.self.inside.followers c.moved.new.self c.args.self.now c.args.bytes.now c.in_ok-block.block c.in_ok-change.change c.self.view_is read judged c.in_ok-change.ensures.ok
    (c.moved.ensures ∙ ap (λ n. moved_places (n - c.in_ok-change.change.added) c.self.inside.followers) (let size : c.len.result ≡ length (chain_of c.add.new.self.chain) = search rules in size)))

pub returns-in_err-block-clause-memory : goal.returns-in_err-block-clause-memory
returns-in_err-block-clause-memory g c =
    on_err c.from_residual-in_err-block.result _ (block_begins c.in-Ok.found c.args.bytes.now (IfOk-at_ok (λ b. IsRead b c.args.bytes.now) c.in-Ok.is c.in_ok-found.ensures.block), λ b spells empty. none_applies (network_held (held c.self.inside) g.S.SigScheme.verifies) c.self.inside.chain_db c.self.inside.followers c.args.self.now c.args.bytes.now c.in-Ok.found c.self.view_is (IfOk-at_ok (λ b. IsRead b c.args.bytes.now) c.in-Ok.is c.in_ok-found.ensures.block) (λ s has. c.in_default.ensures (network_held (held c.self.inside) g.S.SigScheme.verifies) s c.in-Ok.found c.self.invariant.whole has c.bytes.ensures (c.point.ensures.number, c.point.ensures.hash)))

pub returns-in_err-change-clause-memory : goal.returns-in_err-change-clause-memory
returns-in_err-change-clause-memory g c =
    on_err c.from_residual-in_err-change.result _ (block_begins c.in-Ok.found c.args.bytes.now (IfOk-at_ok (λ b. IsRead b c.args.bytes.now) c.in-Ok.is c.in_ok-found.ensures.block), λ b spells empty. none_applies (network_held (held c.self.inside) g.S.SigScheme.verifies) c.self.inside.chain_db c.self.inside.followers c.args.self.now c.args.bytes.now c.in-Ok.found c.self.view_is (IfOk-at_ok (λ b. IsRead b c.args.bytes.now) c.in-Ok.is c.in_ok-found.ensures.block) (λ s has. c.in_default.ensures (network_held (held c.self.inside) g.S.SigScheme.verifies) s c.in-Ok.found c.self.invariant.whole has c.bytes.ensures (c.point.ensures.number, c.point.ensures.hash)))

pub invariant_of-self : goal.invariant_of-self
invariant_of-self g c =
    let whole = whole_same (network_held (held c.self.inside) g.S.SigScheme.verifies) c.self.inside.chain_db c.add.new.self c.add.ensures.opened c.in_err-change.ensures.chain c.in_err-change.ensures.gone c.in_err-change.ensures.store c.in_err-change.ensures.db c.in_err-change.ensures.mempool
    c.in_err-change.ensures.past c.self.invariant.whole in
    record {
      opens = subst (λ (o : List Block). IsOpening (network_on c.self.inside.genesis g.S.SigScheme.verifies o)) (opened_is (network_held (held c.self.inside) g.S.SigScheme.verifies) c.add.new.self (whole)) c.self.invariant.opens;
      whole = subst (λ (o : List Block). IsWhole (network_on c.self.inside.genesis g.S.SigScheme.verifies o) c.add.new.self) (opened_is (network_held (held c.self.inside) g.S.SigScheme.verifies) c.add.new.self (whole)) (whole);
      reached = subst (λ (o : List Block). IsReached (network_on c.self.inside.genesis g.S.SigScheme.verifies o) (held_of c.self.inside.genesis o (blocks_of c.add.new.self.store) (chain_of c.add.new.self.chain) c.add.new.self.mempool.waiting.txs c.self.inside.followers)) (opened_is (network_held (held c.self.inside) g.S.SigScheme.verifies) c.add.new.self (whole))
          (reached_still (network_held (held c.self.inside) g.S.SigScheme.verifies) c.self.inside.chain_db c.add.new.self c.self.inside.followers c.in_err-change.ensures.chain c.in_err-change.ensures.store c.in_err-change.ensures.mempool c.self.invariant.reached);
    }

pub first_refusal-requires : goal.first_refusal-requires
first_refusal-requires g c = whole_indexed (network_held (held c.self.inside) g.S.SigScheme.verifies) c.self.inside.chain_db c.self.invariant.whole
