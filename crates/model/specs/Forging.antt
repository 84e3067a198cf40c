-- Blocks that are forged on a chain, of what waits in the mempool, and what comes of them where they arrive next
-- (Shelley, block production without its leader checks; the order of the faults is this project's own).
use Rattle.std.specs.Prelude.{◌≡◌, ◌≢◌, ℕ, ◌+◌, ◌≤◌, ◌⊎◌, List, [], Some}
use Rattle.std.specs.List.{AllByRecursion}
use Rattle.model.specs.First.{IsFirst}
use Rattle.model.specs.Limits.{number_limit}
use Rattle.model.specs.Transaction.{Transaction}
use Rattle.model.specs.Utxo.{Utxo}
use Rattle.model.specs.Block.{Block, block_hash_of, body_hash_of}
use Rattle.model.specs.Ledger.{Network}
use Rattle.model.specs.Chain.{Tip, genesis_tip, tip_after}
use Rattle.model.specs.Mempool.{picked, utxo_of}
use Rattle.model.specs.History.{State, Arrive, Reply, Kept, Refused, Clash, VolatileFull, OutOfMemory, Step}

-- why no block is forged at a slot, in the order in which the reasons are looked for
pub data ForgeFault : Type 0 where
  SlotNotAfterTip : ForgeFault
  OutOfRange : ForgeFault

abbrev pub forge_fault_number : ForgeFault → ℕ
forge_fault_number SlotNotAfterTip = 1
forge_fault_number OutOfRange = 2

module _ (network : Network) (chain : List Block) where
  abbrev pub tip_of : Tip
  tip_of = tip_after genesis_tip chain

  -- the condition of each: the slot isn't after the tip's, or it or the block's number is 2 ^ 63 or more
  abbrev pub ForgeApplies : ℕ → ForgeFault → Type 0
  ForgeApplies slot SlotNotAfterTip = slot ≤ tip_of.slot
  ForgeApplies slot OutOfRange = (number_limit ≤ slot) ⊎ (number_limit ≤ tip_of.number + 1)

  -- the first that applies
  abbrev pub IsNotForged : ℕ → ForgeFault → Type 0
  IsNotForged slot fault = IsFirst forge_fault_number (ForgeApplies slot) fault

  -- the block of these transactions that comes next in this slot
  abbrev pub next_block : (slot : ℕ) → List Transaction → Block
  next_block slot txs = record {
    header = record { number = tip_of.number + 1; slot = slot; previous = tip_of.hash; body_hash = body_hash_of txs };
    transactions = txs;
  }

  -- FORGED BLOCK
  -- The block comes next on the chain in this slot, with the transactions that are picked of those that wait, on what
  -- the chain leaves unspent.
  pub record IsForged (waiting : List Transaction) (slot : ℕ) (block : Block) : Type 0 where
    pub utxo : Utxo
    pub of_chain : utxo_of network chain ≡ Some utxo
    pub none : (fault : ForgeFault) → ForgeApplies slot fault → ⊥
    pub next : block ≡ next_block slot (picked network.verifies network.genesis.params slot utxo [] waiting)

-- ---- a forged block arrives

-- no kept block names this one as the block before it
abbrev pub IsUnfollowed : (kept : List Block) → Block → Type 0
IsUnfollowed kept b = AllByRecursion (λ c. c.header.previous ≢ Some (block_hash_of b)) kept

-- What is answered where the block that was forged arrives: it is kept, nothing is rolled back, and it is put on, alone
-- where no kept block goes on from it. Only a block of its hash, a full store or a lack of memory is in its way.
abbrev pub IsPutOn : (kept : List Block) → Block → Reply → Type 0
IsPutOn kept b (Kept back added) = (back ≡ 0) × (1 ≤ added) × (IsUnfollowed kept b → added ≡ 1)
IsPutOn kept b (Refused Clash) = Unit {0}
IsPutOn kept b (Refused VolatileFull) = Unit {0}
IsPutOn kept b OutOfMemory = Unit {0}
IsPutOn kept b reply = ⊥

-- ARRIVAL OF A FORGED BLOCK
-- Whatever is answered where the text of this block arrives next, it is put on.
abbrev pub ArrivesNext : Network → State → Block → (bytes : List ℕ) → Type 0
ArrivesNext network s b bytes =
    (reply : Reply) (t : State) → Step network s (Arrive bytes) reply t → IsPutOn s.kept b reply
