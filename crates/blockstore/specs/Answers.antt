-- What a store is asked, and how else it changes.
use Rattle.std.specs.Prelude.{◌≡◌, ◌≢◌, ◌↔◌, ℕ, ◌<◌, List, length, map, filter, Contains, Option, true, false}
use Rattle.model.specs.Block.{Block, block_hash_of}
use Rattle.model.specs.Chain.{HaveDistinctHashes}
use Rattle.blockstore.specs.Stored.{Stored, Store, HasBlock}
use Rattle.blockstore.specs.Tests.{is_past}

-- ---- answers

-- no live block has this hash
abbrev pub HasNoneAt : Store → List ℕ → Type 0
HasNoneAt store hash = (b : Block) → HasBlock store b → block_hash_of b ≢ hash

-- a live block, and it has this hash
pub record IsAt (store : Store) (hash : List ℕ) (found : Stored) : Type 0 where
  pub member : Contains store.blocks found
  pub same : block_hash_of found.block ≡ hash

-- the live blocks that name this one as the block before them (or none, as the first blocks of chains do), each once
pub record AreSuccessors (store : Store) (previous : Option (List ℕ)) (found : List Stored) : Type 0 where
  pub members : (x : Stored) → Contains found x ↔ (Contains store.blocks x × (x.block.header.previous ≡ previous))
  pub once : HaveDistinctHashes (map (λ s. s.block) found)

-- a live block names this one as the block before it
abbrev pub HasSuccessor : Store → Option (List ℕ) → Type 0
HasSuccessor store previous = (x : Stored) × Contains store.blocks x × (x.block.header.previous ≡ previous)

-- ---- changes

-- the same block, with a mark if it has this hash, and else as it was
pub record IsMarkedAt (hash : List ℕ) (before after : Stored) : Type 0 where
  pub block : after.block ≡ before.block
  pub this : block_hash_of before.block ≡ hash → after.invalid ≡ true
  pub others : block_hash_of before.block ≢ hash → after.invalid ≡ before.invalid

-- the block of this hash has its mark, and nothing else changed
pub record IsMarkSet (old : Store) (hash : List ℕ) (new : Store) : Type 0 where
  pub capacity : new.capacity ≡ old.capacity
  pub root : new.root ≡ old.root
  pub members : (x : Stored) → Contains new.blocks x ↔ ((y : Stored) × Contains old.blocks y × IsMarkedAt hash y x)
  pub count : length new.blocks ≡ length old.blocks

-- the block of this hash is gone, and the others have no marks
pub record IsRid (old : Store) (hash : List ℕ) (new : Store) : Type 0 where
  pub capacity : new.capacity ≡ old.capacity
  pub root : new.root ≡ old.root
  pub blocks : (b : Block) → HasBlock new b ↔ (HasBlock old b × (block_hash_of b ≢ hash))
  pub unmarked : (x : Stored) → Contains new.blocks x → x.invalid ≡ false

-- the blocks past this number are left, and nothing else changed but the root
pub record IsCutTo (old : Store) (number : ℕ) (new : Store) : Type 0 where
  pub capacity : new.capacity ≡ old.capacity
  pub members : (x : Stored) → Contains new.blocks x ↔ (Contains old.blocks x × (number < x.block.header.number))
  pub count : length new.blocks ≡ length (filter (is_past number) old.blocks)
