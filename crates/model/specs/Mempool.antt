-- The mempool: transactions that wait to come into a block, in the order in which they came (the Consensus and Storage
-- Layer report, mempool). The order of the answers, and what a forged block takes, are this project's own.
use Rattle.std.specs.Prelude.{◌≡◌, ℕ, suc, nat_le, ◌<◌, ◌≤◌, Bool, ◌&&◌, is_some, if◌then◌else◌, List, [], ◌∷◌, ◌++◌}
use Rattle.std.specs.Prelude.{length, map, Contains, Option, Some, None}
use Rattle.std.specs.Option.{option_map, option_map_or}
use Rattle.model.specs.Limits.{nesting_limit}
use Rattle.model.specs.Cbor.{text_of, nesting}
use Rattle.model.specs.Transaction.{Transaction, SpellsTransaction, transaction_id_of}
use Rattle.model.specs.Signature.{Verifies}
use Rattle.model.specs.Utxo.{Utxo, utxo_after}
use Rattle.model.specs.Rules.{Params, Reason, reason_against}
use Rattle.model.specs.Block.{Block, item_of_transactions}
use Rattle.model.specs.Ledger.{Network, ledger_of}
use Rattle.model.specs.Chain.{genesis_tip, tip_after}

-- the unspent outputs after transactions, one after the other
abbrev pub utxo_after_all : Utxo → List Transaction → Utxo
utxo_after_all utxo [] = utxo
utxo_after_all utxo (t ∷ ts) = utxo_after_all (utxo_after utxo t) ts

-- a block has a text with a body of these transactions, which nests one deeper there
abbrev pub nests_in_a_block : List Transaction → Bool
nests_in_a_block ts = nat_le (suc (nesting (item_of_transactions ts))) nesting_limit

-- and that body is not too big
abbrev pub fits_in_a_block : Params → List Transaction → Bool
fits_in_a_block params ts =
    nests_in_a_block ts && nat_le (length (text_of (item_of_transactions ts))) params.max_body_size

module _ (verifies : Verifies) (params : Params) (slot : ℕ) where
  -- PASS THROUGH (the report, revalidation of the mempool)
  -- In order, each transaction stays against which there is no reason on what those that stay before it leave.
  abbrev pub passed : Utxo → List Transaction → List Transaction
  passed utxo [] = []
  passed utxo (t ∷ ts) =
      if is_some (reason_against verifies params utxo slot t) then passed utxo ts
      else t ∷ passed (utxo_after utxo t) ts

  -- PICKED TRANSACTIONS
  -- What a block forged at this slot takes: in order, each transaction against which there is no reason on what those
  -- taken before it leave, and with which the body still fits.
  abbrev pub picked : Utxo → (taken : List Transaction) → List Transaction → List Transaction
  picked utxo taken [] = taken
  picked utxo taken (t ∷ ts) =
      if is_some (reason_against verifies params utxo slot t) then picked utxo taken ts
      else (if fits_in_a_block params (taken ++ t ∷ []) then picked (utxo_after utxo t) (taken ++ t ∷ []) ts else picked utxo taken ts)

-- ---- beside a chain

-- the slot at which the mempool is judged: the one after the tip's
abbrev pub next_slot : List Block → ℕ
next_slot chain = suc (tip_after genesis_tip chain).slot

module _ (network : Network) (chain : List Block) where
  -- the unspent outputs of the chain, and none where it has no ledger
  abbrev pub utxo_of : Option Utxo
  utxo_of = option_map (λ ledger. ledger.utxo) (ledger_of network chain)

  -- MEMPOOL BROUGHT UP TO DATE
  -- The pass through it on the chain's unspent outputs, at the slot after its tip's.
  abbrev pub revalidated : List Transaction → List Transaction
  revalidated txs = option_map_or
      (λ utxo. passed network.verifies network.genesis.params (next_slot chain) utxo txs) utxo_of []

  -- valid in order: where it is brought up to date nothing is dropped
  abbrev pub IsValidMempool : List Transaction → Type 0
  IsValidMempool txs = revalidated txs ≡ txs

-- ---- what is submitted

-- what is answered to bytes that are submitted, in the order in which it is looked for
pub data SubmitReply : Type 0 where
  Malformed : SubmitReply  -- they are the text of no transaction
  Known : SubmitReply  -- the mempool has a transaction of this identifier
  Refused : Reason → SubmitReply  -- this is the first reason against it, after those of the mempool
  Full : SubmitReply  -- there are as many as there may be
  Added : SubmitReply

-- the bytes are read as a transaction that has this property
abbrev pub IsTransactionWith : List ℕ → (Transaction → Type 0) → Type 0
IsTransactionWith bytes P = (t : Transaction) × SpellsTransaction t bytes × P t

-- the mempool has a transaction of this one's identifier, whatever signed it
abbrev pub IsInMempool : List Transaction → Transaction → Type 0
IsInMempool txs t = Contains (map transaction_id_of txs) (transaction_id_of t)

-- at this slot, on what the mempool's transactions leave unspent, where the mempool may have `max` transactions
module _ (verifies : Verifies) (params : Params) (slot : ℕ) (unspent : Utxo) (max : ℕ) (txs : List Transaction) where
  -- it isn't in the mempool, and this is the first reason against it, or there is none
  abbrev pub IsJudged : Transaction → Option Reason → Type 0
  IsJudged t reason = (IsInMempool txs t → ⊥) × (reason_against verifies params unspent slot t ≡ reason)

  -- the condition of each answer
  abbrev pub Answers : List ℕ → SubmitReply → Type 0
  Answers bytes Malformed = (t : Transaction) → SpellsTransaction t bytes → ⊥
  Answers bytes Known = IsTransactionWith bytes (IsInMempool txs)
  Answers bytes (Refused reason) = IsTransactionWith bytes (λ t. IsJudged t (Some reason))
  Answers bytes Full = IsTransactionWith bytes (λ t. IsJudged t None × (max ≤ length txs))
  Answers bytes Added = IsTransactionWith bytes (λ t. IsJudged t None × (length txs < max))

-- SUBMISSION
-- What the mempool is after bytes that are answered so: with the transaction at its end where it is added, and else the
-- same.
abbrev pub IsMempoolAfter : List Transaction → List ℕ → SubmitReply → List Transaction → Type 0
IsMempoolAfter txs bytes Added after = IsTransactionWith bytes (λ t. after ≡ txs ++ t ∷ [])
IsMempoolAfter txs bytes reply after = after ≡ txs

-- bytes that are submitted beside a chain are answered so, and leave this mempool
pub record Submits (network : Network) (chain : List Block) (txs : List Transaction) (bytes : List ℕ)
    (reply : SubmitReply) (after : List Transaction) : Type 0 where
  pub utxo : Utxo
  pub of_chain : utxo_of network chain ≡ Some utxo
  pub answers : Answers network.verifies network.genesis.params (next_slot chain) (utxo_after_all utxo txs)
      network.genesis.max_mempool txs bytes reply
  pub mempool : IsMempoolAfter txs bytes reply after
