-- What the store of live blocks holds.
use Rattle.std.specs.Prelude.{ℕ, ◌≤◌, List, [], length, map, Contains, Bool, true, false, Option, refl}
use Rattle.std.specs.Coded.{Coded, code_by, coded×, coded_list, coded_ℕ, coded_bool, coded_option}
use Rattle.model.specs.Block.{Block}
use Rattle.model.specs.Chain.{Tip, HaveDistinctHashes}
use Rattle.model.specs.Genesis.{Genesis}
use Rattle.model.specs.Codes.{coded_block, coded_tip}
use Rattle.blockstore.specs.declared.capacity.Capacity.{Capacity}

-- a live block, and whether it is known that no valid chain will ever have it
pub record Stored : Type 0 where
  pub block : Block
  pub invalid : Bool

-- how many live blocks there may be and how many bytes they may have, the place that ways to them begin behind, and
-- those that there are, in no order that is spoken of
pub record Store : Type 0 where
  pub capacity : Capacity
  pub root : Tip
  pub blocks : List Stored

abbrev pub coded_stored : Coded Stored
coded_stored =
    code_by (Block × Bool) (coded× coded_block coded_bool) (λ s. (s.block, s.invalid))
    (λ p. record { block = p.0; invalid = p.1 }) (λ _. refl)

abbrev pub coded_store : Coded Store
coded_store =
    code_by ((ℕ × Option ℕ) × (Tip × List Stored))
    (coded× (coded× coded_ℕ (coded_option coded_ℕ)) (coded× coded_tip (coded_list coded_stored)))
    (λ s. ((s.capacity.blocks, s.capacity.bytes), (s.root, s.blocks)))
    (λ p. record { capacity = record { blocks = p.0.0; bytes = p.0.1 }; root = p.1.0; blocks = p.1.1 }) (λ _. refl)

-- the block as it comes in
abbrev pub unmarked : Block → Stored
unmarked b = record { block = b; invalid = false }

-- the block with its mark
abbrev pub marked : Stored → Stored
marked s = record { block = s.block; invalid = true }

-- what a genesis lets a store hold
abbrev pub capacity_of : Genesis → Capacity
capacity_of genesis = record { blocks = genesis.max_volatile; bytes = genesis.max_volatile_bytes }

-- a store that no block came to, where ways begin behind this place
abbrev pub empty_store : Capacity → Tip → Store
empty_store capacity root = record { capacity = capacity; root = root; blocks = [] }

-- the live blocks, without their marks
abbrev pub blocks_of : Store → List Block
blocks_of store = map (λ s. s.block) store.blocks

-- the block is live
abbrev pub HasBlock : Store → Block → Type 0
HasBlock store b = Contains (blocks_of store) b

-- what is true of every store: no two blocks have one hash, so that none is there twice, and there are at most as many
-- as may be
pub record IsSet (store : Store) : Type 0 where
  pub distinct : HaveDistinctHashes (blocks_of store)
  pub few : length store.blocks ≤ store.capacity.blocks
