-- The mempool beside a chain, as the code holds it.
use Rattle.std.specs.Prelude.{◌≡◌, ℕ, List, Some}
use Rattle.model.specs.Block.{Block}
use Rattle.model.specs.Transaction.{Transaction}
use Rattle.model.specs.Utxo.{Utxo}
use Rattle.model.specs.Ledger.{Network}
use Rattle.model.specs.Mempool.{utxo_after_all, utxo_of, revalidated, IsValidMempool, SubmitReply, Submits}
use Rattle.mempool.specs.Contents.{Mempool, Waiting}
use Rattle.mempool.specs.Calls.{IsEarly}

module _ (network : Network) (chain : List Block) where
  -- it is valid in order, may have as many transactions as the genesis says, and what they leave unspent is beside them
  pub record IsMempoolOf (mempool : Mempool) : Type 0 where
    pub capacity : mempool.capacity ≡ network.genesis.max_mempool
    pub valid : IsValidMempool network chain mempool.waiting.txs
    pub unspent : (utxo : Utxo) → utxo_of network chain ≡ Some utxo
        → mempool.waiting.unspent ≡ utxo_after_all utxo mempool.waiting.txs

  -- these transactions were brought up to date with the chain
  pub record IsResynced (txs : List Transaction) (waiting : Waiting) : Type 0 where
    pub stay : waiting.txs ≡ revalidated network chain txs
    pub unspent : (utxo : Utxo) → utxo_of network chain ≡ Some utxo
        → waiting.unspent ≡ utxo_after_all utxo waiting.txs

  -- memory is asked for only where what is answered to these bytes, beside these transactions, isn't known without it
  abbrev pub IsWantOf : List Transaction → List ℕ → Type 0
  IsWantOf txs bytes = (reply : SubmitReply) → IsEarly reply → (after : List Transaction)
      → Submits network chain txs bytes reply after → ⊥
