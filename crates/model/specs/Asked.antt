-- What is asked of a node: where a block is, where a transaction stands, why a block isn't selected, which blocks no
-- way leads to, and what a transaction would be refused for (this project's own).
use Rattle.std.specs.Prelude.{◌≡◌, ◌≢◌, ◌⊎◌, ℕ, ◌+◌, ◌<◌, ◌≤◌, List, [], ◌∷◌, ◌++◌, length, map, take, Contains}
use Rattle.std.specs.Prelude.{Option, Some, None, slice_get}
use Rattle.std.specs.List.{AllByRecursion}
use Rattle.model.specs.Transaction.{Transaction, transaction_id_of}
use Rattle.model.specs.Utxo.{Utxo}
use Rattle.model.specs.Block.{Block, block_hash_of}
use Rattle.model.specs.Ledger.{Network}
use Rattle.model.specs.Chain.{genesis_tip, tip_at, tip_after, Follows, IsLinked, IsValidChain, IsCandidate, NoneHas}
use Rattle.model.specs.Chain.{HaveDistinctHashes, immutable_part}
use Rattle.model.specs.Applying.{LedgerState, BlockFault, IsStateOf, IsFirstFault}
use Rattle.model.specs.Mempool.{utxo_of, utxo_after_all, next_slot, IsInMempool, IsTransactionWith, Submits, Refused}
use Rattle.model.specs.History.{State, live_of}
use Rattle.model.specs.Rules.{Reason}
use Rattle.model.specs.Explaining.{Detail, IsDetail}

-- ---- blocks by their hashes

-- one of these blocks has the hash, and this number
pub record HasBlockOf (blocks : List Block) (hash : List ℕ) (number : ℕ) : Type 0 where
  pub block : Block
  pub member : Contains blocks block
  pub hash_is : block_hash_of block ≡ hash
  pub number_is : block.header.number ≡ number

-- ---- where a block is

-- on the selected chain at this number, beside it with this number, or nowhere
pub data BlockPlace : Type 0 where
  OnChain : (number : ℕ) → BlockPlace
  Beside : (number : ℕ) → BlockPlace
  Nowhere : BlockPlace

-- WHERE A BLOCK IS
-- On the chain, where a block of it has the hash; else beside it, where a live one has; and else nowhere.
abbrev pub IsPlaceOf : Network → State → (hash : List ℕ) → BlockPlace → Type 0
IsPlaceOf network s hash (OnChain number) = HasBlockOf s.chain hash number
IsPlaceOf network s hash (Beside number) = NoneHas s.chain hash × HasBlockOf (live_of network s) hash number
IsPlaceOf network s hash Nowhere = NoneHas s.chain hash × NoneHas (live_of network s) hash

-- ---- where a transaction stands

-- at this position of the mempool, counted from 0; in the block of this number, as its transaction of this index,
-- counted from 0; or it isn't found
pub data TxPlace : Type 0 where
  Waiting : (position : ℕ) → TxPlace
  InBlock : (number index : ℕ) → TxPlace
  NotFound : TxPlace

-- no transaction of these has the identifier
abbrev pub NoTxHas : List Transaction → (id : List ℕ) → Type 0
NoTxHas txs id = AllByRecursion (λ t. transaction_id_of t ≢ id) txs

-- the transaction at this place has it, and none before
pub record IsFirstAt (txs : List Transaction) (id : List ℕ) (place : ℕ) : Type 0 where
  pub tx : Transaction
  pub here : slice_get txs place ≡ Some tx
  pub same : transaction_id_of tx ≡ id
  pub none_before : NoTxHas (take place txs) id

-- this block of the chain has it at this index, fewer than `depth` blocks come after it, and none of these has it
pub record IsLastWith (depth : ℕ) (chain : List Block) (id : List ℕ) (number index : ℕ) : Type 0 where
  pub before : List Block
  pub block : Block
  pub later : List Block
  pub parts : chain ≡ before ++ block ∷ later
  pub number_is : number ≡ length before + 1
  pub few_later : length later < depth
  pub at : IsFirstAt block.transactions id index
  pub none_later : AllByRecursion (λ b. NoTxHas b.transactions id) later

-- none of the last `depth` blocks of the chain has it
abbrev pub NoLateBlockHas : (depth : ℕ) → (chain : List Block) → (id : List ℕ) → Type 0
NoLateBlockHas depth chain id =
    (before : List Block) (block : Block) (later : List Block) → chain ≡ before ++ block ∷ later
    → length later < depth → NoTxHas block.transactions id

-- WHERE A TRANSACTION STANDS
-- In the mempool, where it waits; else in the last of the last k blocks of the selected chain that has it; and else it
-- isn't found.
abbrev pub IsTxPlaceOf : Network → State → (id : List ℕ) → TxPlace → Type 0
IsTxPlaceOf network s id (Waiting position) = IsFirstAt s.mempool id position
IsTxPlaceOf network s id (InBlock number index) =
    NoTxHas s.mempool id × IsLastWith network.genesis.k s.chain id number index
IsTxPlaceOf network s id NotFound = NoTxHas s.mempool id × NoLateBlockHas network.genesis.k s.chain id

-- ---- the way back from a block

-- a live block that isn't on the selected chain
pub record IsBeside (network : Network) (s : State) (b : Block) : Type 0 where
  pub live : Contains (live_of network s) b
  pub apart : Contains s.chain b → ⊥

-- WAY BACK
-- Blocks beside the chain, each following the one before it, of which the last has this hash, as none of the chain has.
pub record WayBack (network : Network) (s : State) (hash : List ℕ) : Type 0 where
  pub first : Block
  pub rest : List Block
  pub linked : IsLinked (tip_at first) rest
  pub beside : AllByRecursion (IsBeside network s) (first ∷ rest)
  pub ends : (tip_after (tip_at first) rest).hash ≡ Some hash
  pub apart : NoneHas s.chain hash

-- What stands before the first of them: it follows the first `keep` blocks of the chain, none where `keep` is 0;
pub record HangsOn (s : State) (keep : ℕ) (first : Block) : Type 0 where
  pub within : keep ≤ length s.chain
  pub follows : Follows (tip_after genesis_tip (take keep s.chain)) first

-- or it names a block that is neither on the chain nor live;
pub record Misses (network : Network) (s : State) (first : Block) (hash : List ℕ) : Type 0 where
  pub names : first.header.previous ≡ Some hash
  pub chain : NoneHas s.chain hash
  pub live : NoneHas (live_of network s) hash

-- a block of this hash is on the chain or live
pub record IsHeld (network : Network) (s : State) (hash : List ℕ) : Type 0 where
  pub block : Block
  pub member : Contains s.chain block ⊎ Contains (live_of network s) block
  pub hash_is : block_hash_of block ≡ hash

-- or it names one that is, or none, and follows neither any block on the chain or live nor genesis.
pub record Misfits (network : Network) (s : State) (first : Block) : Type 0 where
  pub names : (hash : List ℕ) → first.header.previous ≡ Some hash → IsHeld network s hash
  pub not_first : Follows genesis_tip first → ⊥
  pub no_chain : AllByRecursion (λ c. Follows (tip_at c) first → ⊥) s.chain
  pub no_live : AllByRecursion (λ c. Follows (tip_at c) first → ⊥) (live_of network s)

-- ---- why a block isn't selected

-- no block has the hash; it is selected; a block before it is missing, that of this hash; it goes back to the block of
-- this hash, which doesn't fit what stands before it; the block of this hash on the way to it is refused, for this
-- fault; or the chain with it isn't longer than the selected one
pub data Why : Type 0 where
  Unknown : Why
  Selected : Why
  Waits : (hash : List ℕ) → Why
  Misfit : (hash : List ℕ) → Why
  Invalid : (hash : List ℕ) → BlockFault → Why
  NotLonger : Why

-- put on in order behind these blocks, the block of this hash is the first of the way with a fault, and this is its
-- first
pub record IsRefusedOn (network : Network) (root way : List Block) (hash : List ℕ) (fault : BlockFault) : Type 0 where
  pub before : List Block
  pub block : Block
  pub later : List Block
  pub parts : way ≡ before ++ block ∷ later
  pub hash_is : block_hash_of block ≡ hash
  pub state : LedgerState
  pub state_is : IsStateOf network (root ++ before) state
  pub first_fault : IsFirstFault network.verifies state block fault

-- the whole way is let through behind these blocks, and they aren't longer with it than the selected chain
pub record IsNotLonger (network : Network) (selected root way : List Block) : Type 0 where
  pub valid : IsValidChain network (root ++ way)
  pub not_longer : length (root ++ way) ≤ length selected

-- WHY A BLOCK ISN'T SELECTED
-- No block has the hash; or it is on the selected chain; or a way back leads from it to a block before which one is
-- missing, to one that doesn't fit, or to one that follows blocks of the chain, and then a block of the way is refused
-- behind these, or all are let through and the chain that they make isn't longer than the selected one.
abbrev pub IsWhyOf : Network → State → (hash : List ℕ) → Why → Type 0
IsWhyOf network s hash Unknown = NoneHas s.chain hash × NoneHas (live_of network s) hash
IsWhyOf network s hash Selected = (number : ℕ) × HasBlockOf s.chain hash number
IsWhyOf network s hash (Waits missing) = (way : WayBack network s hash) × Misses network s way.first missing
IsWhyOf network s hash (Misfit of_first) =
    (way : WayBack network s hash) × Misfits network s way.first × (block_hash_of way.first ≡ of_first)
IsWhyOf network s hash (Invalid refused fault) =
    (way : WayBack network s hash) × (keep : ℕ) × HangsOn s keep way.first
    × IsRefusedOn network (take keep s.chain) (way.first ∷ way.rest) refused fault
IsWhyOf network s hash NotLonger =
    (way : WayBack network s hash) × (keep : ℕ) × HangsOn s keep way.first
    × IsNotLonger network s.chain (take keep s.chain) (way.first ∷ way.rest)

-- ---- blocks that no way leads to

-- A way leads to the block: live blocks, each following the one before it, of which the first follows the immutable
-- tip, and then the block, which follows the last of them, or the immutable tip where there are none.
pub record IsConnected (network : Network) (s : State) (b : Block) : Type 0 where
  pub before : List Block
  pub live : AllByRecursion (Contains (live_of network s)) before
  pub linked : IsLinked (tip_after genesis_tip (immutable_part network s.chain)) (before ++ b ∷ [])

-- no valid chain of kept blocks through the immutable tip has it
abbrev pub IsInNoCandidate : Network → State → Block → Type 0
IsInNoCandidate network s b = (c : List Block) → IsCandidate network s.kept s.chain c → Contains c b → ⊥

-- none of these numbers is less than one behind it
abbrev pub AreNonIncreasing : List ℕ → Type 0
AreNonIncreasing [] = Unit {0}
AreNonIncreasing (n ∷ ns) = AllByRecursion (λ m. m ≤ n) ns × AreNonIncreasing ns

-- UNCONNECTED BLOCKS
-- Live blocks beside the chain, each once, those with the greatest numbers first. All that no way leads to are among
-- them. None is that a valid chain of kept blocks through the immutable tip has: so where a way leads to one, a block
-- of that way, or this one, is refused. Which of these are among them isn't said.
pub record AreUnconnected (network : Network) (s : State) (blocks : List Block) : Type 0 where
  pub beside : AllByRecursion (IsBeside network s) blocks
  pub barred : AllByRecursion (IsInNoCandidate network s) blocks
  pub each : (b : Block) → IsBeside network s b → (IsConnected network s b → ⊥) → Contains blocks b
  pub once : HaveDistinctHashes blocks
  pub order : AreNonIncreasing (map (λ b. b.header.number) blocks)

-- ---- what a transaction would be refused for

-- DETAIL OF A SUBMISSION
-- The bytes are a transaction that the mempool doesn't have, and at the slot after the tip's, on what the mempool's
-- transactions leave of the chain's unspent outputs, this is the reason against it with what it is about; or, where
-- there is none, the bytes, if they were submitted, would be refused for no reason.
abbrev pub ExplainsSubmission : Network → State → (bytes : List ℕ) → Option Detail → Type 0
ExplainsSubmission network s bytes (Some detail) =
    (utxo : Utxo) × (utxo_of network s.chain ≡ Some utxo) × IsTransactionWith bytes (λ t.
    (IsInMempool s.mempool t → ⊥) × IsDetail network.verifies network.genesis.params
    (utxo_after_all utxo s.mempool) (next_slot s.chain) t detail)
ExplainsSubmission network s bytes None =
    (reason : Reason) (after : List Transaction)
    → Submits network s.chain s.mempool bytes (Refused reason) after → ⊥
