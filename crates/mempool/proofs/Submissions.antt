-- What becomes of a transaction that is submitted.
use Rattle.std.proofs.Common.{◌≡◌, ℕ, ◌<◌, ◌≤◌, Bool, true, false, true≢false, List, [], ◌∷◌, ◌++◌, length, map, nat_lt, Some, None, Contains, refl, sym, ap, subst, ◌∙◌, arith}
use Rattle.model.specs.Cbor.{Null, items_of, items_text}
use Rattle.model.specs.Transaction.{Transaction, SpellsTransaction, item_of_body, item_of_witnesses, transaction_id_of}
use Rattle.model.specs.Signature.{Verifies}
use Rattle.model.specs.Utxo.{Utxo, utxo_after}
use Rattle.model.specs.Rules.{Params, Reason, NoInputs, reasons, passes, reason_against}
use Rattle.model.specs.Mempool.{utxo_after_all, IsInMempool, IsMempoolAfter, SubmitReply, Malformed, Known, Refused, Full, Added}
use Rattle.model.proofs.Reasons.{fails_in}
use Rattle.model.proofs.TransactionTexts.{one_transaction}
use Rattle.tx.specs.Bare.{IsBare, BeginsLikeTransaction}
use Rattle.mempool.specs.Contents.{Mempool}
use Rattle.mempool.specs.Calls.{with_tx, IsLeft, IsSubmission, IsNew, IsWantFor, ExplainsBytes}
use Rattle.model.specs.Explaining.{Detail, IsDetail}
use Rattle.model.specs.Evaluating as evaluating
use Rattle.model.specs.Evaluating.{Evaluation, Evaluates, reply_of}
use Rattle.model.proofs.OneReply.{answers_one}
use Rattle.model.proofs.Evaluations.{evaluation_answers}

after_last : (utxo : Utxo) (ts : List Transaction) (t : Transaction) → utxo_after_all utxo (ts ++ t ∷ []) ≡ utxo_after (utxo_after_all utxo ts) t
after_last utxo [] t = refl
after_last utxo (x ∷ xs) t = after_last (utxo_after utxo x) xs t

-- where a test says whether the identifier is there, and says that it isn't
pub is_new : (inside now : Mempool) (t : Transaction) (id : List ℕ) (there : Bool) → inside ≡ now → id ≡ transaction_id_of t → (Contains (map transaction_id_of inside.waiting.txs) id → there ≡ true) → there ≡ false → IsInMempool now.waiting.txs t → ⊥
is_new inside now t id there view is says absent found =
    true≢false (sym (says (subst (λ (p : Mempool). Contains (map transaction_id_of p.waiting.txs) id) (sym view) (subst (Contains (map transaction_id_of now.waiting.txs)) (sym is) found))) ∙ absent)

module _ (verifies : Verifies) (params : Params) (slot : ℕ) (old : Mempool) (t : Transaction) (bytes : List ℕ) (spells : SpellsTransaction t bytes) where
  -- its identifier is there
  pub known : (id : List ℕ) → id ≡ transaction_id_of t → Contains (map transaction_id_of old.waiting.txs) id → IsSubmission verifies params slot old bytes Known old
  known id is there = record {
    answers = (t, spells, subst (Contains (map transaction_id_of old.waiting.txs)) is there);
    left = refl;
  }

  -- there is a reason against it
  pub against : (reason : Reason) → (IsInMempool old.waiting.txs t → ⊥) → reason_against verifies params old.waiting.unspent slot t ≡ Some reason → IsSubmission verifies params slot old bytes (Refused reason) old
  against reason fresh is = record { answers = (t, spells, (fresh, is)); left = refl }

  -- there is no room for it
  pub full : (IsInMempool old.waiting.txs t → ⊥) → reason_against verifies params old.waiting.unspent slot t ≡ None → old.capacity ≤ length old.waiting.txs → IsSubmission verifies params slot old bytes Full old
  full fresh none no_room = record { answers = (t, spells, ((fresh, none), no_room)); left = refl }

  -- it waits, after the others
  pub added : (new : Mempool) → (IsInMempool old.waiting.txs t → ⊥) → reason_against verifies params old.waiting.unspent slot t ≡ None → length old.waiting.txs < old.capacity
      → new ≡ record { capacity = old.capacity; waiting = with_tx old.waiting t } → IsSubmission verifies params slot old bytes Added new
  added new fresh none room is = subst (λ (p : Mempool). IsSubmission verifies params slot old bytes Added p) (sym is) record {
    answers = (t, spells, ((fresh, none), room));
    left = (t, spells, refl);
  }

-- ---- what a submission leaves

-- what waits is the mempool of the definitions after it
pub left_txs : (old : Mempool) (bytes : List ℕ) (reply : SubmitReply) (new : Mempool) → IsLeft old bytes reply new → IsMempoolAfter old.waiting.txs bytes reply new.waiting.txs
left_txs old bytes Malformed new is = ap (λ (p : Mempool). p.waiting.txs) is
left_txs old bytes Known new is = ap (λ (p : Mempool). p.waiting.txs) is
left_txs old bytes (Refused r) new is = ap (λ (p : Mempool). p.waiting.txs) is
left_txs old bytes Full new is = ap (λ (p : Mempool). p.waiting.txs) is
left_txs old bytes Added new is = (is.0, is.1, ap (λ (p : Mempool). p.waiting.txs) is.2)

-- as many may wait
pub left_capacity : (old : Mempool) (bytes : List ℕ) (reply : SubmitReply) (new : Mempool) → IsLeft old bytes reply new → new.capacity ≡ old.capacity
left_capacity old bytes Malformed new is = ap (λ (p : Mempool). p.capacity) is
left_capacity old bytes Known new is = ap (λ (p : Mempool). p.capacity) is
left_capacity old bytes (Refused r) new is = ap (λ (p : Mempool). p.capacity) is
left_capacity old bytes Full new is = ap (λ (p : Mempool). p.capacity) is
left_capacity old bytes Added new is = ap (λ (p : Mempool). p.capacity) is.2

-- what is unspent are the outputs that what waits leaves of some outputs
abbrev pub IsUnspentOf : Utxo → Mempool → Type 0
IsUnspentOf utxo p = p.waiting.unspent ≡ utxo_after_all utxo p.waiting.txs

-- and it is so still
pub left_unspent : (old : Mempool) (bytes : List ℕ) (reply : SubmitReply) (new : Mempool) (utxo : Utxo) → IsLeft old bytes reply new → IsUnspentOf utxo old → IsUnspentOf utxo new
left_unspent old bytes Malformed new utxo is e = subst (IsUnspentOf utxo) (sym is) e
left_unspent old bytes Known new utxo is e = subst (IsUnspentOf utxo) (sym is) e
left_unspent old bytes (Refused r) new utxo is e = subst (IsUnspentOf utxo) (sym is) e
left_unspent old bytes Full new utxo is e = subst (IsUnspentOf utxo) (sym is) e
left_unspent old bytes Added new utxo is e = subst (IsUnspentOf utxo) (sym is.2) (ap (λ u. utxo_after u is.0) e ∙ sym (after_last utxo old.waiting.txs is.0))

-- ---- where memory is wanting

-- the text of a transaction begins as one does
pub begins_like : (t : Transaction) (bytes : List ℕ) → SpellsTransaction t bytes → BeginsLikeTransaction bytes
begins_like t bytes s = record { rest = items_text (items_of (item_of_body t ∷ item_of_witnesses t ∷ Null ∷ [])); parts = s.text.spelled }

module _ (verifies : Verifies) (params : Params) (slot : ℕ) (mempool : Mempool) (t : Transaction) (new : IsNew verifies params slot mempool t) where
  reason_fails : (r : Reason) → reason_against verifies params mempool.waiting.unspent slot t ≡ Some r → passes verifies params mempool.waiting.unspent slot t r ≡ false
  unfolding reason_against
  reason_fails r is = fails_in (passes verifies params mempool.waiting.unspent slot t) reasons r is

  -- what is new has none of the answers that are known without memory
  pub new_wants : (bytes : List ℕ) → SpellsTransaction t bytes → IsWantFor verifies params slot mempool bytes
  new_wants bytes spells Malformed early answers = early
  new_wants bytes spells Known early answers = new.unknown (subst (IsInMempool mempool.waiting.txs) (one_transaction answers.0 t bytes answers.1 spells) answers.2)
  new_wants bytes spells (Refused r) early answers =
      let same = one_transaction answers.0 t bytes answers.1 spells in
      let against = subst (λ (x : Transaction). reason_against verifies params mempool.waiting.unspent slot x ≡ Some r) same answers.2.1 in
      true≢false (sym (new.early r early) ∙ reason_fails r against)
  new_wants bytes spells Full early answers = early
  new_wants bytes spells Added early answers = early

  -- it spends something
  pub new_spends : (bytes : List ℕ) → SpellsTransaction t bytes → (u : Transaction) → SpellsTransaction u bytes → IsBare u → ⊥
  new_spends bytes spells u spelled bare =
      let same = one_transaction u t bytes spelled spells in
      let some : nat_lt 0 (length t.inputs) ≡ true = new.early NoInputs (omega arith) in
      let none : t.inputs ≡ [] = ap (λ (x : Transaction). x.inputs) (sym same) ∙ bare.inputs in
      true≢false (sym some ∙ ap (λ (xs : _). nat_lt 0 (length xs)) none)

-- ---- what bytes would be answered

module _ (verifies : Verifies) (params : Params) (slot : ℕ) (mempool : Mempool) (bytes : List ℕ) (t : Transaction) (spells : SpellsTransaction t bytes) where
  abbrev EvaluatesHere : Evaluation → Type 0
  EvaluatesHere = Evaluates verifies params slot mempool.waiting.unspent mempool.capacity mempool.waiting.txs bytes

  -- its identifier is there
  pub evaluated_known : (id : List ℕ) → id ≡ transaction_id_of t → Contains (map transaction_id_of mempool.waiting.txs) id → EvaluatesHere evaluating.Known
  evaluated_known id is there = (t, spells, subst (Contains (map transaction_id_of mempool.waiting.txs)) is there)

  -- a reason is there
  pub evaluated_refused : (detail : Detail) → (IsInMempool mempool.waiting.txs t → ⊥) → IsDetail verifies params mempool.waiting.unspent slot t detail → EvaluatesHere (evaluating.Refused detail)
  evaluated_refused detail fresh is = (t, spells, (fresh, is))

  -- there is none
  pub evaluated_full : (IsInMempool mempool.waiting.txs t → ⊥) → reason_against verifies params mempool.waiting.unspent slot t ≡ None → mempool.capacity ≤ length mempool.waiting.txs → EvaluatesHere evaluating.Full
  evaluated_full fresh none no_room = (t, spells, ((fresh, none), no_room))

  pub evaluated_acceptable : (IsInMempool mempool.waiting.txs t → ⊥) → reason_against verifies params mempool.waiting.unspent slot t ≡ None → length mempool.waiting.txs < mempool.capacity → EvaluatesHere evaluating.Acceptable
  evaluated_acceptable fresh none room = (t, spells, ((fresh, none), room))

module _ (verifies : Verifies) (params : Params) (slot : ℕ) (mempool : Mempool) (bytes : List ℕ) where
  -- what would be answered in another way, would be refused for no reason
  pub not_refused : (e : Evaluation) → ((reason : Reason) → reply_of e ≡ Refused reason → ⊥) → Evaluates verifies params slot mempool.waiting.unspent mempool.capacity mempool.waiting.txs bytes e
      → ExplainsBytes verifies params slot mempool bytes None
  not_refused e other is = λ reason answers. other reason
      (answers_one verifies params slot mempool.waiting.unspent mempool.capacity mempool.waiting.txs bytes (reply_of e) (Refused reason)
      (evaluation_answers verifies params slot mempool.waiting.unspent mempool.capacity mempool.waiting.txs bytes e is) answers)
