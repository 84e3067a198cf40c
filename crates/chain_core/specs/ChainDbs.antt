-- The selected chain with what selection stands on, and what becomes of them when a block is kept.
use Rattle.std.specs.Prelude.{◌≡◌, ◌↔◌, ◌⊎◌, ℕ, ◌+◌, ◌-◌, min, true, List, [], ◌∷◌, ◌++◌, length, take, Contains}
use Rattle.std.specs.Prelude.{Option, Some}
use Rattle.model.specs.Block.{Block, block_hash_of}
use Rattle.model.specs.Genesis.{Genesis}
use Rattle.model.specs.Signature.{Verifies}
use Rattle.model.specs.Ledger.{Network, network_on}
use Rattle.model.specs.Chain.{genesis_tip, tip_after, immutable_length}
use Rattle.model.specs.Applying.{LedgerState}
use Rattle.model.specs.Mempool.{SubmitReply, revalidated, Submits}
use Rattle.model.specs.History.{State, IsChange, HasBeside, without_hash}
use Rattle.ident.specs.Kinds.{BlockHash}
use Rattle.blockstore.specs.Stored.{Stored, Store, capacity_of, HasBlock, IsSet}
use Rattle.blockstore.specs.Insertion.{IsInserted}
use Rattle.blockstore.specs.Answers.{IsCutTo}
use Rattle.blockstore.specs.Live.{HoldsLive, GainsLive, FollowsChain, KeepsLive}
use Rattle.ledgerdb.specs.Values.{Database, Prepared, depth, count, latest}
use Rattle.ledgerdb.specs.Chains.{without_last, IsDatabaseOf, IsPreparedOf}
use Rattle.chainsel.specs.Ready.{IsSettled}
use Rattle.chainsel.specs.Choices.{IsSelected}
use Rattle.chain.specs.Chained.{chain_of}
use Rattle.chain.specs.Indexed.{first_hashes}
use Rattle.chain_core.specs.Mempools.{IsMempoolOf}
use Rattle.chain_core.specs.declared.chain_db.ChainDb.{ChainDb}
use Rattle.chain_core.specs.declared.chain_db.Change.{Change}

-- Between two arrivals: settled, with the limits of the genesis, the mempool beside the chain, and how many blocks it
-- was opened on. All blocks of the chain are in memory. Those that are never rolled back are indexed, and no others, so
-- that no block that is indexed is ever rolled back.
pub record IsWhole {S : Type 0} (network : Network) (a : ChainDb S) : Type 0 where
  pub gone : a.chain.gone ≡ []
  pub settled : IsSettled network (chain_of a.chain) a.store a.db
  pub k : a.db.k ≡ network.genesis.k
  pub capacity : a.store.capacity ≡ capacity_of network.genesis
  pub mempool : IsMempoolOf network (chain_of a.chain) a.mempool
  pub past : a.past.hashes ≡ first_hashes (immutable_length network (chain_of a.chain)) (chain_of a.chain)
  pub opened : a.opened ≡ length network.opened

-- the blocks that are indexed are the first ones of the chain
abbrev pub IsIndexed : {S : Type 0} → ChainDb S → Type 0
IsIndexed a = a.past.hashes ≡ first_hashes (length a.past.hashes) (chain_of a.chain)

-- what it begins from, under a genesis and a scheme of signatures
abbrev pub network_db : {S : Type 0} → Genesis → Verifies → ChainDb S → Network
network_db genesis verifies a = network_on genesis verifies (take a.opened (chain_of a.chain))

-- the state has this chain, and its live blocks are those of the store
pub record HasState {S : Type 0} (network : Network) (a : ChainDb S) (s : State) : Type 0 where
  pub chain : (chain_of a.chain) ≡ s.chain
  pub live : HoldsLive network s.kept s.chain a.store

-- A block was kept, and the selection rule asked. Where the store had what was live of the kept blocks, it then has
-- what is live of these and this one. The mempool was brought up to date.
pub record IsAdded {S : Type 0} (network : Network) (old : ChainDb S) (block : Block) (new : ChainDb S)
    (counts : Change) : Type 0 where
  pub selected : IsSelected network old.store (chain_of old.chain) block (chain_of new.chain)
  pub change : IsChange (chain_of old.chain) (chain_of new.chain) counts.back counts.added
  pub live : (kept : List Block) → HoldsLive network kept (chain_of old.chain) old.store
      → HoldsLive network (block ∷ kept) (chain_of new.chain) new.store
  pub mempool : new.mempool.waiting.txs ≡ revalidated network (chain_of new.chain) old.mempool.waiting.txs
  pub whole : IsWhole network new

-- the block of this hash, which was beside the chain of the state, is kept no more
pub record IsDiscarded {S : Type 0} (network : Network) (s : State) (hash : List ℕ) (new : ChainDb S) : Type 0 where
  pub beside : HasBeside network s hash
  pub live : HoldsLive network (without_hash hash s.kept) s.chain new.store
  pub whole : IsWhole network new

-- the same blocks, of which those have a mark that had one, and those of these hashes
pub record AreMarked (old : Store) (hashes : List BlockHash) (new : Store) : Type 0 where
  pub capacity : new.capacity ≡ old.capacity
  pub root : new.root ≡ old.root
  pub blocks : (b : Block) → HasBlock new b ↔ HasBlock old b
  pub marks : (s : Stored) → Contains new.blocks s → s.invalid ≡ true
      → ((t : Stored) × Contains old.blocks t × (t.block ≡ s.block) × (t.invalid ≡ true))
      ⊎ ((hash : BlockHash) × Contains hashes hash × (block_hash_of s.block ≡ hash.bytes))
  pub live : KeepsLive old new

-- the block came in, and the blocks of these hashes have their marks
pub record IsTakenIn (old : Store) (block : Block) (hashes : List BlockHash) (new : Store) : Type 0 where
  pub between : Store
  pub inserted : IsInserted old block between
  pub gains : GainsLive old block between
  pub marked : AreMarked between hashes new
  pub set : IsSet new

-- the blocks past this number are left, and ways to them begin behind as many blocks of this chain
pub record IsCutBack (old : Store) (chain : List Block) (number : ℕ) (new : Store) : Type 0 where
  pub root : new.root ≡ record (tip_after genesis_tip (take number chain)) { number = number }
  pub cut : IsCutTo old number new
  pub set : IsSet new
  pub live : FollowsChain old number new

-- the database is that of the chain that was prepared, as deep as may be
pub record IsCommitted (old : Database) (prepared : Prepared) (new : Database) : Type 0 where
  pub depth : depth new ≡ min old.k (depth old - prepared.back + count prepared)
  pub k : new.k ≡ old.k
  pub chain : (network : Network) (chain blocks : List Block) → IsDatabaseOf network chain old
      → IsPreparedOf network (without_last prepared.back chain) blocks prepared
      → IsDatabaseOf network (without_last prepared.back chain ++ blocks) new
  pub sides : new.sides ≡ []

-- the database keeps this state beside the chain as well, if there is one, or nothing changed
abbrev pub IsBeside : Database → Option LedgerState → Database → Type 0
IsBeside old side new =
    (new ≡ old)
    ⊎ ((s : LedgerState) × (side ≡ Some s) × (new ≡ record old { sides = latest (old.sides ++ s ∷ []) }))

-- bytes of a transaction were submitted and answered so
pub record IsTaken {S : Type 0} (network : Network) (old : ChainDb S) (bytes : List ℕ) (reply : SubmitReply)
    (new : ChainDb S) : Type 0 where
  pub submits : Submits network (chain_of old.chain) old.mempool.waiting.txs bytes reply new.mempool.waiting.txs
  pub whole : IsWhole network new
