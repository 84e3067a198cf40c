-- How the search goes: what a path is made of, what goes on from a block, and how a block hangs on the chain.
use Rattle.std.specs.Prelude.{◌≡◌, ◌≢◌, ◌⊎◌, ℕ, ◌≤◌, ◌<◌, List, [], ◌∷◌, ◌++◌, length, take, Contains, Some, false}
use Rattle.std.specs.Prelude.{slice_get}
use Rattle.std.specs.List.{AllByRecursion}
use Rattle.std.specs.Ordering.{nat_cmp}
use Rattle.std.specs.declared.cmp.Ordering.TheVariants.{Greater}
use Rattle.std.specs.Cmp.Lexicographic.{slice_cmp}
use Rattle.model.specs.Block.{Block, block_hash_of}
use Rattle.model.specs.Chain.{genesis_tip, tip_at, tip_after, IsLinked}
use Rattle.ident.specs.Kinds.{BlockHash}
use Rattle.blockstore.specs.Stored.{Stored, Store}

-- nothing is known against a live block: it has no mark, and isn't among those that were found dead so far
pub record IsFit (invalid : List BlockHash) (stored : Stored) : Type 0 where
  pub unmarked : stored.invalid ≡ false
  pub unfound : AllByRecursion (λ hash. hash.bytes ≢ block_hash_of stored.block) invalid

-- a live block against which nothing is known
pub record IsFitLive (store : Store) (invalid : List BlockHash) (b : Block) : Type 0 where
  pub stored : Stored
  pub member : Contains store.blocks stored
  pub block : stored.block ≡ b
  pub fit : IsFit invalid stored

-- the last of the blocks after one, and that one where there are none
abbrev pub last_block : Block → List Block → Block
last_block b [] = b
last_block b (c ∷ cs) = last_block c cs

-- The block is this one, or goes on from it: by blocks against which nothing is known, each following the one before.
pub record Descends (store : Store) (invalid : List BlockHash) (new b : Block) : Type 0 where
  pub path : List Block
  pub linked : IsLinked (tip_at new) path
  pub members : AllByRecursion (IsFitLive store invalid) path
  pub last : last_block new path ≡ b

-- of all that goes on from a block none has a greater number, and of those with that number none has a lesser hash
pub record IsBest (store : Store) (invalid : List BlockHash) (new best : Block) : Type 0 where
  pub descends : Descends store invalid new best
  pub furthest : (b : Block) → Descends store invalid new b → b.header.number ≤ best.header.number
  pub least : (b : Block) → Descends store invalid new b → b.header.number ≡ best.header.number
      → slice_cmp nat_cmp (block_hash_of best) (block_hash_of b) ≢ Greater

-- the new block, or one that is fit: what paths are made of
abbrev pub IsOnPath : Store → List BlockHash → (new : Block) → Block → Type 0
IsOnPath store invalid new b = (b ≡ new) ⊎ IsFitLive store invalid b

-- After the first `keep` blocks of the chain, which are no fewer than `immutable`, come these, each following the one
-- before, up to this end. The first of them isn't the next one of the chain, where the end is past the chain.
pub record IsWay (store : Store) (invalid : List BlockHash) (chain : List Block) (immutable : ℕ) (new end : Block)
    (keep : ℕ) (blocks : List Block) : Type 0 where
  pub low : immutable ≤ keep
  pub high : keep ≤ length chain
  pub linked : IsLinked (tip_after genesis_tip (take keep chain)) blocks
  pub before : List Block
  pub ends : blocks ≡ before ++ end ∷ []
  pub members : AllByRecursion (IsOnPath store invalid new) before
  pub apart : length chain < end.header.number
      → (b : Block) → slice_get blocks 0 ≡ Some b → slice_get chain keep ≢ Some b

-- no such blocks come after the immutable part of the chain
abbrev pub HasNoWay : Store → List BlockHash → (chain : List Block) → (immutable : ℕ) → (new end : Block) → Type 0
HasNoWay store invalid chain immutable new end =
    (before : List Block) → AllByRecursion (IsOnPath store invalid new) before
    → IsLinked (tip_after genesis_tip (take immutable chain)) (before ++ end ∷ []) → ⊥

-- no live block names this one as the block before it
abbrev pub IsLast : Store → Block → Type 0
IsLast store b = (x : Stored) → Contains store.blocks x → x.block.header.previous ≢ Some (block_hash_of b)
