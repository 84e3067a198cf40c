-- What a store of the code stands for, and what it keeps.
use Rattle.std.specs.Prelude.{◌≡◌, ◌≤◌, Some, [], length, false, Contains, vec_capacity}
use Rattle.std.specs.List.{AllByRecursion}
use Rattle.block.specs.Read.{IsRead}
use Rattle.block.specs.View.{tip_of}
use Rattle.model.specs.Block.{block_text}
use Rattle.blockstore.specs.declared.store.BlockStore.TheInside.{Inside}
use Rattle.blockstore.specs.Stored.{Stored, Store, IsSet}
use Rattle.blockstore.specs.Ways.{AreNotes}

abbrev pub store_of : {S : Type 0} → Inside S → Store
store_of s = record { capacity = s.capacity; root = tip_of s.root; blocks = s.blocks.blocks }

-- the blocks were read, so that the text of each is no other block's; which of them have no mark and a way that leads
-- to them is noted; where no mark was set since all were taken off, none has one
pub record IsHeldStore {S : Type 0} (s : Inside S) : Type 0 where
  pub is_set : IsSet (store_of s)
  pub read : AllByRecursion (λ x. IsRead x.block (block_text x.block)) s.blocks.blocks
  pub notes : AreNotes (Some (tip_of s.root)) s.blocks.blocks s.blocks.notes
  pub none_waits : s.reach.waiting.items ≡ []
  pub room : length s.blocks.blocks ≤ vec_capacity s.reach.waiting
  pub marks : s.has_marks ≡ false → (x : Stored) → Contains s.blocks.blocks x → x.invalid ≡ false
