-- The live blocks that no way leads to, as a store finds them.
use Rattle.std.specs.Prelude.{◌≡◌, ◌↔◌, ℕ, List, [], ◌∷◌, ◌++◌, map, Contains, Option, Some, None, cond, false}
use Rattle.std.specs.BTreeMap.{BTreeMap, get}
use Rattle.model.specs.Block.{Block, block_hash_of}
use Rattle.model.specs.Chain.{HaveDistinctHashes}
use Rattle.model.specs.Asked.{AreNonIncreasing}
use Rattle.blockstore.specs.Stored.{Stored, Store}
use Rattle.blockstore.specs.Placed.{Placed, Held, is_noted}
use Rattle.blockstore.specs.Keys.{hash_cmp}
use Rattle.blockstore.specs.Ways.{HasWay}
use Rattle.blockstore.specs.declared.keys.Age.{Age}

-- ---- of a store

-- no mark, and a way leads to it
pub record IsOnWay (store : Store) (x : Stored) : Type 0 where
  pub unmarked : x.invalid ≡ false
  pub way : HasWay store.root store.blocks x.block

-- the live blocks of which that isn't so, each once, those with the greatest numbers first
pub record AreOffWays (store : Store) (found : List Block) : Type 0 where
  pub members : (b : Block)
      → Contains found b ↔ ((x : Stored) × Contains store.blocks x × (x.block ≡ b) × (IsOnWay store x → ⊥))
  pub once : HaveDistinctHashes found
  pub order : AreNonIncreasing (map (λ b. b.header.number) found)

-- ---- of what is held

-- the blocks of which that isn't noted
pub record AreUnnoted (held : Held) (found : List Block) : Type 0 where
  pub members : (b : Block)
      → Contains found b
      ↔ ((x : Stored) × Contains held.blocks x × (x.block ≡ b) × (is_noted held.notes (block_hash_of b) ≡ false))
  pub once : HaveDistinctHashes found
  pub order : AreNonIncreasing (map (λ b. b.header.number) found)

-- the block at a hash, unless it is noted
abbrev pub unnoted : Option Placed → List Block
unnoted None = []
unnoted (Some p) = cond p.reached [] (p.stored.block ∷ [])

-- those at the hashes of these ages, from the last age to the first
abbrev pub unnoted_at : BTreeMap (List ℕ) Placed → List Age → List Block
unnoted_at m [] = []
unnoted_at m (age ∷ ages) = unnoted_at m ages ++ unnoted (get hash_cmp m age.hash)
