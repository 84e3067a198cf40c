-- How a block comes into a store, and why it doesn't.
use Rattle.std.specs.Prelude.{◌≡◌, ◌≢◌, ◌↔◌, ◌⊎◌, ℕ, ◌+◌, ◌≤◌, length, Contains}
use Rattle.model.specs.Block.{Block, block_text, block_hash_of, bytes_in}
use Rattle.model.specs.Genesis.{IsOver}
use Rattle.blockstore.specs.declared.insert_fault.InsertFault.{InsertFault}
use Rattle.blockstore.specs.declared.insert_fault.InsertFault.TheVariants.{Known, Clash, VolatileFull, OutOfMemory}
use Rattle.blockstore.specs.Stored.{Stored, Store, unmarked, blocks_of, HasBlock}

-- a live block has the text of this one
abbrev pub IsKnown : Store → Block → Type 0
IsKnown store b = (c : Block) × HasBlock store c × (block_text c ≡ block_text b)

-- a live block has the hash of this one, and another text
abbrev pub IsClash : Store → Block → Type 0
IsClash store b =
    (c : Block) × HasBlock store c × (block_hash_of c ≡ block_hash_of b) × (block_text c ≢ block_text b)

-- there are as many live blocks as may be, or with these bytes more they have more than they may have
abbrev pub IsFull : Store → (bytes : ℕ) → Type 0
IsFull store bytes =
    (store.capacity.blocks ≤ length store.blocks) ⊎ IsOver store.capacity.bytes (bytes_in (blocks_of store) + bytes)

-- nothing is said against the block
pub record IsAllowed (store : Store) (b : Block) : Type 0 where
  pub unknown : IsKnown store b → ⊥
  pub alone : IsClash store b → ⊥
  pub not_full : IsFull store (length (block_text b)) → ⊥

-- why the block doesn't come in: the first reason that applies, or OutOfMemory, which is told where none does
abbrev pub IsInsertFault : Store → Block → InsertFault → Type 0
IsInsertFault store b Known = IsKnown store b
IsInsertFault store b Clash = (IsKnown store b → ⊥) × IsClash store b
IsInsertFault store b VolatileFull =
    (IsKnown store b → ⊥) × (IsClash store b → ⊥) × IsFull store (length (block_text b))
IsInsertFault store b OutOfMemory = IsAllowed store b

-- to the live blocks this one came, without a mark, and nothing else changed
pub record IsInserted (old : Store) (b : Block) (new : Store) : Type 0 where
  pub capacity : new.capacity ≡ old.capacity
  pub root : new.root ≡ old.root
  pub members : (x : Stored) → Contains new.blocks x ↔ (Contains old.blocks x ⊎ (x ≡ unmarked b))
  pub count : length new.blocks ≡ length old.blocks + 1
