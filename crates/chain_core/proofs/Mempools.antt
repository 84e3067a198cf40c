-- The mempool beside a chain: brought up to date with another one, and after a submission.
use Rattle.std.proofs.Common.{◌≡◌, ℕ, ◌+◌, List, Option, Some, None, [], sym, ap, subst, ◌∙◌, arith}
use Rattle.std.specs.Option.{option_map, option_map_or}
use Rattle.std.proofs.lemmas.Option.{same_Some}
use Rattle.model.specs.Block.{Block}
use Rattle.model.specs.Transaction.{Transaction}
use Rattle.model.specs.Utxo.{Utxo}
use Rattle.model.specs.Rules.{Params}
use Rattle.model.specs.Chain.{Tip}
use Rattle.model.specs.Ledger.{Network, Ledger}
use Rattle.model.specs.Applying.{LedgerState, IsStateOf}
use Rattle.model.specs.Mempool.{utxo_after_all, passed, utxo_of, next_slot, revalidated, IsValidMempool, SubmitReply, Refused, Answers, Submits, IsInMempool}
use Rattle.model.specs.Explaining.{Detail, IsDetail}
use Rattle.model.specs.History.{State}
use Rattle.model.specs.Asked.{ExplainsSubmission}
use Rattle.model.specs.Evaluating.{Evaluation, Evaluates, IsEvaluation}
use Rattle.model.proofs.MempoolSteps.{up_to_date, nothing_valid, submitted_valid}
use Rattle.mempool.specs.Contents.{Mempool, Waiting}
use Rattle.mempool.specs.Calls.{resynced_on, IsSubmission, IsWantFor, ExplainsBytes}
use Rattle.mempool.proofs.ForCallers.{left_txs, left_capacity, left_unspent}
use Rattle.chain_core.specs.Mempools.{IsMempoolOf, IsResynced, IsWantOf}

module _ (network : Network) (chain : List Block) (state : LedgerState) (is : IsStateOf network chain state) where
  -- the unspent outputs of the chain are those of its state
  pub outputs_are : utxo_of network chain ≡ Some state.ledger.utxo
  outputs_are = ap (λ (o : Option Ledger). option_map (λ (l : Ledger). l.utxo) o) is.ledger

  -- and the slot after its tip's is that of the state
  pub slot_is : state.tip.slot + 1 ≡ next_slot chain
  slot_is = let e = ap (λ (t : Tip). t.slot) is.tip in omega (arith, e)

  -- so a pass on these brings up to date
  passes : (txs : List Transaction) → passed network.verifies state.params (state.tip.slot + 1) state.ledger.utxo txs ≡ revalidated network chain txs
  passes txs =
      ap (λ (p : Params). passed network.verifies p (state.tip.slot + 1) state.ledger.utxo txs) is.params
      ∙ (ap (λ (n : ℕ). passed network.verifies network.genesis.params n state.ledger.utxo txs) slot_is
      ∙ ap (λ (o : Option Utxo). option_map_or (λ (utxo : Utxo). passed network.verifies network.genesis.params (next_slot chain) utxo txs) o []) (sym outputs_are))

  pub resynced : (params : Params) (slot : ℕ) (unspent : Utxo) (txs : List Transaction) (waiting : Waiting) → params ≡ state.params → slot ≡ state.tip.slot → unspent ≡ state.ledger.utxo
      → waiting ≡ resynced_on network.verifies params (slot + 1) unspent txs → IsResynced network chain txs waiting
  resynced params slot unspent txs waiting params_is slot_of unspent_is waits =
      let here : waiting ≡ resynced_on network.verifies state.params (state.tip.slot + 1) state.ledger.utxo txs =
      waits ∙ (λ i. resynced_on network.verifies (params_is i) (slot_of i + 1) (unspent_is i) txs) in
      record {
        stay = ap (λ (w : Waiting). w.txs) here ∙ passes txs;
        unspent = λ utxo of_chain.
            let same : state.ledger.utxo ≡ utxo = same_Some state.ledger.utxo utxo (sym outputs_are ∙ of_chain) in
            ap (λ (w : Waiting). w.unspent) here ∙ (ap (λ (w : Waiting). utxo_after_all state.ledger.utxo w.txs) (sym here) ∙ ap (λ (u : Utxo). utxo_after_all u waiting.txs) same);
      }

  -- a submission to the code's mempool is one beside the chain, and leaves its mempool
  module _ (mempool new : Mempool) (of : IsMempoolOf network chain mempool) (params : Params) (slot : ℕ) (bytes : List ℕ) (reply : SubmitReply) (params_is : params ≡ state.params) (slot_of : slot ≡ state.tip.slot)
      (submission : IsSubmission network.verifies params (slot + 1) mempool bytes reply new) where
    pub submits : Submits network chain mempool.waiting.txs bytes reply new.waiting.txs
    submits = record {
      utxo = state.ledger.utxo;
      of_chain = outputs_are;
      answers = subst (λ (n : ℕ). Answers network.verifies network.genesis.params (next_slot chain) (utxo_after_all state.ledger.utxo mempool.waiting.txs) n mempool.waiting.txs bytes reply) of.capacity
          (subst (λ (u : Utxo). Answers network.verifies network.genesis.params (next_slot chain) u mempool.capacity mempool.waiting.txs bytes reply) (of.unspent state.ledger.utxo outputs_are)
          (subst (λ (n : ℕ). Answers network.verifies network.genesis.params n mempool.waiting.unspent mempool.capacity mempool.waiting.txs bytes reply) (ap (λ n. n + 1) slot_of ∙ slot_is)
          (subst (λ (p : Params). Answers network.verifies p (slot + 1) mempool.waiting.unspent mempool.capacity mempool.waiting.txs bytes reply) (params_is ∙ is.params) submission.answers)));
      mempool = left_txs mempool bytes reply new submission.left;
    }

    pub mempool_after : IsMempoolOf network chain new
    mempool_after = record {
      capacity = left_capacity mempool bytes reply new submission.left ∙ of.capacity;
      valid = submitted_valid network chain mempool.waiting.txs bytes reply new.waiting.txs submits of.valid;
      unspent = λ utxo of_chain. left_unspent mempool bytes reply new utxo submission.left (of.unspent utxo of_chain);
    }

  -- what is answered beside the chain is answered by the code's mempool
  module _ (mempool : Mempool) (of : IsMempoolOf network chain mempool) (params : Params) (slot : ℕ) (params_is : params ≡ state.params) (slot_of : slot ≡ state.tip.slot) (bytes : List ℕ) where
    answers_inside : (reply : SubmitReply) (after : List Transaction) → Submits network chain mempool.waiting.txs bytes reply after → Answers network.verifies params (slot + 1) mempool.waiting.unspent mempool.capacity mempool.waiting.txs bytes reply
    answers_inside reply after s =
        let same : state.ledger.utxo ≡ s.utxo = same_Some state.ledger.utxo s.utxo (sym outputs_are ∙ s.of_chain) in
        let unspent : utxo_after_all s.utxo mempool.waiting.txs ≡ mempool.waiting.unspent = sym (of.unspent state.ledger.utxo outputs_are ∙ ap (λ (u : Utxo). utxo_after_all u mempool.waiting.txs) same) in
        subst (λ (p : Params). Answers network.verifies p (slot + 1) mempool.waiting.unspent mempool.capacity mempool.waiting.txs bytes reply) (sym (params_is ∙ is.params))
        (subst (λ (n : ℕ). Answers network.verifies network.genesis.params n mempool.waiting.unspent mempool.capacity mempool.waiting.txs bytes reply) (sym (ap (λ n. n + 1) slot_of ∙ slot_is))
        (subst (λ (u : Utxo). Answers network.verifies network.genesis.params (next_slot chain) u mempool.capacity mempool.waiting.txs bytes reply) unspent
        (subst (λ (n : ℕ). Answers network.verifies network.genesis.params (next_slot chain) (utxo_after_all s.utxo mempool.waiting.txs) n mempool.waiting.txs bytes reply) (sym of.capacity) s.answers)))

    -- so where memory was wanting in that it was wanting beside the chain
    pub wants : IsWantFor network.verifies params (slot + 1) mempool bytes → IsWantOf network chain mempool.waiting.txs bytes
    wants want reply early after s = want reply early (answers_inside reply after s)

    -- and what that would refuse bytes for, they would be refused for beside the chain
    pub explained : (s : State) → chain ≡ s.chain → mempool.waiting.txs ≡ s.mempool → (told : Option Detail) → ExplainsBytes network.verifies params (slot + 1) mempool bytes told → ExplainsSubmission network s bytes told
    explained s chain_is txs_is None none = λ reason after submits.
        none reason (answers_inside (Refused reason) after
        (subst (λ (c : List Block). Submits network c mempool.waiting.txs bytes (Refused reason) after) (sym chain_is)
        (subst (λ (ts : List Transaction). Submits network s.chain ts bytes (Refused reason) after) (sym txs_is) submits)))
    explained s chain_is txs_is (Some detail) found =
        let params = network.genesis.params in
        let utxo = state.ledger.utxo in (
          utxo,
          subst (λ (c : List Block). utxo_of network c ≡ Some utxo) chain_is outputs_are,
          (
            found.0,
            found.1,
            (
              λ there. found.2.0 (subst (λ (ts : List Transaction). IsInMempool ts found.0) (sym txs_is) there),
              subst (λ (ts : List Transaction). IsDetail network.verifies params (utxo_after_all utxo ts) (next_slot s.chain) found.0 detail) txs_is
                  (subst (λ (c : List Block). IsDetail network.verifies params (utxo_after_all utxo mempool.waiting.txs) (next_slot c) found.0 detail) chain_is
                  (subst (λ (u : Utxo). IsDetail network.verifies params u (next_slot chain) found.0 detail) (of.unspent utxo outputs_are)
                  (subst (λ (n : ℕ). IsDetail network.verifies params mempool.waiting.unspent n found.0 detail) (ap (λ n. n + 1) slot_of ∙ slot_is)
                  (subst (λ (p : Params). IsDetail network.verifies p mempool.waiting.unspent (slot + 1) found.0 detail) (params_is ∙ is.params) found.2.1)))),
            ),
          ),
        )

  -- what bytes would be answered by it at a slot, they would be answered beside the chain
  pub evaluated : (mempool : Mempool) → IsMempoolOf network chain mempool → (params : Params) → params ≡ state.params → (slot : ℕ) (bytes : List ℕ) (s : State) → chain ≡ s.chain → mempool.waiting.txs ≡ s.mempool
      → (evaluation : Evaluation) → Evaluates network.verifies params slot mempool.waiting.unspent mempool.capacity mempool.waiting.txs bytes evaluation → IsEvaluation network s slot bytes evaluation
  evaluated mempool of params params_is slot bytes s chain_is txs_is evaluation told =
      let v = network.verifies in
      let utxo = state.ledger.utxo in (
        utxo,
        subst (λ (c : List Block). utxo_of network c ≡ Some utxo) chain_is outputs_are,
        subst (λ (n : ℕ). Evaluates v network.genesis.params slot (utxo_after_all utxo s.mempool) n s.mempool bytes evaluation) of.capacity
            (subst (λ (ts : List Transaction). Evaluates v network.genesis.params slot (utxo_after_all utxo ts) mempool.capacity ts bytes evaluation) txs_is
            (subst (λ (u : Utxo). Evaluates v network.genesis.params slot u mempool.capacity mempool.waiting.txs bytes evaluation) (of.unspent utxo outputs_are)
            (subst (λ (p : Params). Evaluates v p slot mempool.waiting.unspent mempool.capacity mempool.waiting.txs bytes evaluation) (params_is ∙ is.params) told))),
      )

-- a mempool that was brought up to date with another chain is that chain's
pub mempool_resynced : (network : Network) (chain : List Block) (old new : Mempool) (waiting : Waiting) → old.capacity ≡ network.genesis.max_mempool → IsResynced network chain old.waiting.txs waiting
    → new ≡ record old { waiting = waiting } → IsMempoolOf network chain new
mempool_resynced network chain old new waiting capacity resynced_to is = record {
  capacity = ap (λ (p : Mempool). p.capacity) is ∙ capacity;
  valid = subst (λ (p : Mempool). IsValidMempool network chain p.waiting.txs) (sym is) (subst (IsValidMempool network chain) (sym resynced_to.stay) (up_to_date network chain old.waiting.txs));
  unspent = subst (λ (p : Mempool). (utxo : Utxo) → utxo_of network chain ≡ Some utxo → p.waiting.unspent ≡ utxo_after_all utxo p.waiting.txs) (sym is) resynced_to.unspent;
}

-- and its transactions are those that stay
pub stay_resynced : (network : Network) (chain : List Block) (old new : Mempool) (waiting : Waiting) → IsResynced network chain old.waiting.txs waiting → new ≡ record old { waiting = waiting } → new.waiting.txs ≡ revalidated network chain old.waiting.txs
stay_resynced network chain old new waiting resynced_to is = ap (λ (p : Mempool). p.waiting.txs) is ∙ resynced_to.stay

-- before anything came
pub mempool_at_start : (network : Network) (chain : List Block) (state : LedgerState) → IsStateOf network chain state → (mempool : Mempool) (capacity : ℕ) (unspent : Utxo) → capacity ≡ network.genesis.max_mempool → unspent ≡ state.ledger.utxo
    → mempool ≡ record { capacity = capacity; waiting = record { txs = []; unspent = unspent } } → IsMempoolOf network chain mempool
mempool_at_start network chain state is mempool capacity unspent capacity_is unspent_is mempool_is = subst (IsMempoolOf network chain) (sym mempool_is) (record {
  capacity = capacity_is;
  valid = nothing_valid network chain;
  unspent = λ utxo of_chain. unspent_is ∙ same_Some state.ledger.utxo utxo (sym (outputs_are network chain state is) ∙ of_chain);
})
