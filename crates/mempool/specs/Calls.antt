-- What the calls of the mempool promise.
use Rattle.std.specs.Prelude.{◌≡◌, ℕ, ◌<◌, List, ◌++◌, [], ◌∷◌, is_some, if◌then◌else◌}
use Rattle.std.specs.Prelude.{Option, Some, None}
use Rattle.model.specs.Transaction.{Transaction, SpellsTransaction}
use Rattle.model.specs.Signature.{Verifies}
use Rattle.model.specs.Utxo.{Utxo, utxo_after}
use Rattle.model.specs.Rules.{Params, Reason, reason_number, reason_against}
use Rattle.model.specs.Explaining.{Detail, IsDetail}
use Rattle.model.specs.Mempool.{utxo_after_all, passed, SubmitReply, Known, Refused, Added, Answers, IsInMempool}
use Rattle.model.specs.Mempool.{IsTransactionWith}
use Rattle.tx.specs.Bare.{IsBare, BeginsLikeTransaction}
use Rattle.utxo_rules.specs.Check.{PassesEarly}
use Rattle.mempool.specs.Contents.{Waiting, Mempool}

-- one more transaction waits
abbrev pub with_tx : Waiting → Transaction → Waiting
with_tx w t = record { txs = w.txs ++ t ∷ []; unspent = utxo_after w.unspent t }

-- and it does where there is no reason against it on what those before it leave
abbrev pub kept_with : Verifies → Params → ℕ → Waiting → Transaction → Waiting
kept_with verifies params slot w t =
    if is_some (reason_against verifies params w.unspent slot t) then w else with_tx w t

-- what stays of transactions where they are passed through on these unspent outputs
abbrev pub resynced_on : Verifies → Params → ℕ → Utxo → List Transaction → Waiting
resynced_on verifies params slot utxo txs =
    record {
      txs = passed verifies params slot utxo txs;
      unspent = utxo_after_all utxo (passed verifies params slot utxo txs);
    }

-- what bytes that are answered so leave: one more transaction waits where it is added, and else nothing changes
abbrev pub IsLeft : Mempool → List ℕ → SubmitReply → Mempool → Type 0
IsLeft old bytes Added new = IsTransactionWith bytes (λ t. new ≡ record old { waiting = with_tx old.waiting t })
IsLeft old bytes reply new = new ≡ old

-- bytes that were submitted were answered so, and left this mempool
pub record IsSubmission (verifies : Verifies) (params : Params) (slot : ℕ) (old : Mempool) (bytes : List ℕ)
    (reply : SubmitReply) (new : Mempool) : Type 0 where
  pub answers : Answers verifies params slot old.waiting.unspent old.capacity old.waiting.txs bytes reply
  pub left : IsLeft old bytes reply new

-- the same of a transaction, whatever bytes spell it
abbrev pub IsSubmissionOf : Verifies → Params → ℕ → Mempool → Transaction → SubmitReply → Mempool → Type 0
IsSubmissionOf verifies params slot old t reply new = (bytes : List ℕ) → SpellsTransaction t bytes
    → IsSubmission verifies params slot old bytes reply new

-- it isn't known, and none of the reasons 1 to 7 is there
pub record IsNew (verifies : Verifies) (params : Params) (slot : ℕ) (mempool : Mempool) (t : Transaction) : Type 0 where
  pub unknown : IsInMempool mempool.waiting.txs t → ⊥
  pub early : PassesEarly verifies params mempool.waiting.unspent slot t

-- what is known of a transaction before memory is asked for: that it waits, or one of the reasons 1 to 7
abbrev pub IsEarly : SubmitReply → Type 0
IsEarly Known = Unit {0}
IsEarly (Refused reason) = reason_number reason < 8
IsEarly other = ⊥

-- so memory is wanting only where the answer is none of these
abbrev pub IsWantFor : Verifies → Params → ℕ → Mempool → List ℕ → Type 0
IsWantFor verifies params slot mempool bytes = (reply : SubmitReply) → IsEarly reply
    → Answers verifies params slot mempool.waiting.unspent mempool.capacity mempool.waiting.txs bytes reply → ⊥

-- bytes that are submitted want memory only where they begin as a transaction does, and are not the text of one without
-- parts
abbrev pub IsWantAtSubmission : List ℕ → Type 0
IsWantAtSubmission bytes = BeginsLikeTransaction bytes × ((t : Transaction) → SpellsTransaction t bytes → IsBare t → ⊥)

-- why these bytes would be refused, with what that is about; without a detail, they would be refused for no reason
abbrev pub ExplainsBytes : Verifies → Params → ℕ → Mempool → List ℕ → Option Detail → Type 0
ExplainsBytes verifies params slot mempool bytes (Some detail) =
    IsTransactionWith bytes (λ t. (IsInMempool mempool.waiting.txs t → ⊥)
    × IsDetail verifies params mempool.waiting.unspent slot t detail)
ExplainsBytes verifies params slot mempool bytes None =
    (reason : Reason)
    → Answers verifies params slot mempool.waiting.unspent mempool.capacity mempool.waiting.txs bytes (Refused reason)
    → ⊥
