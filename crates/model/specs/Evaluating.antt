-- What a submission would be answered: the reply with what the reason is about, at any slot, and nothing is submitted
-- (this project's own).
use Rattle.std.specs.Prelude.{◌≡◌, ℕ, List, Some}
use Rattle.model.specs.Transaction.{Transaction}
use Rattle.model.specs.Signature.{Verifies}
use Rattle.model.specs.Utxo.{Utxo}
use Rattle.model.specs.Rules.{Params}
use Rattle.model.specs.Explaining.{Detail, IsDetail, reason_of_detail}
use Rattle.model.specs.Ledger.{Network}
use Rattle.model.specs.Mempool as mempool
use Rattle.model.specs.Mempool.{SubmitReply, Answers, IsTransactionWith, IsInMempool, utxo_of, utxo_after_all}
use Rattle.model.specs.History.{State}

-- a reply to a submission, with what the reason is about where it is refused
pub data Evaluation : Type 0 where
  Malformed : Evaluation  -- the bytes are the text of no transaction
  Known : Evaluation  -- the mempool has a transaction of this identifier
  Refused : Detail → Evaluation
  Full : Evaluation  -- there are as many as there may be
  Acceptable : Evaluation  -- it would be added

-- the reply alone
abbrev pub reply_of : Evaluation → SubmitReply
reply_of Malformed = mempool.Malformed
reply_of Known = mempool.Known
reply_of (Refused detail) = mempool.Refused (reason_of_detail detail)
reply_of Full = mempool.Full
reply_of Acceptable = mempool.Added

-- at this slot, on what the mempool's transactions leave unspent, where the mempool may have `max` transactions
module _ (verifies : Verifies) (params : Params) (slot : ℕ) (unspent : Utxo) (max : ℕ) (txs : List Transaction) where
  -- The bytes would be answered so. Where they would be refused, they are a transaction that the mempool doesn't have,
  -- and the detail is that of the reason against it.
  abbrev pub Evaluates : List ℕ → Evaluation → Type 0
  Evaluates bytes (Refused detail) = IsTransactionWith bytes
      (λ t. (IsInMempool txs t → ⊥) × IsDetail verifies params unspent slot t detail)
  Evaluates bytes other = Answers verifies params slot unspent max txs bytes (reply_of other)

-- EVALUATION OF A SUBMISSION
-- On what the mempool's transactions leave of the chain's unspent outputs, at this slot. At the slot after the tip's it
-- is what a submission is answered.
abbrev pub IsEvaluation : Network → State → (slot : ℕ) → (bytes : List ℕ) → Evaluation → Type 0
IsEvaluation network s slot bytes evaluation =
    (utxo : Utxo) × (utxo_of network s.chain ≡ Some utxo) × Evaluates network.verifies network.genesis.params slot
    (utxo_after_all utxo s.mempool) network.genesis.max_mempool s.mempool bytes evaluation
