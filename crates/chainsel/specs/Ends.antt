-- Where the paths end that go on from a block.
use Rattle.std.specs.Prelude.{◌≡◌, ◌≢◌, ◌↔◌, ℕ, ◌≤◌, List, [], length, map, drop, Contains}
use Rattle.std.specs.List.{AllByRecursion}
use Rattle.std.specs.Ordering.{nat_cmp}
use Rattle.std.specs.declared.cmp.Ordering.TheVariants.{Greater}
use Rattle.std.specs.Cmp.Lexicographic.{slice_cmp}
use Rattle.model.specs.Block.{Block, block_hash_of}
use Rattle.model.specs.Chain.{tip_at, Follows}
use Rattle.ident.specs.Kinds.{BlockHash}
use Rattle.blockstore.specs.Stored.{Store}
use Rattle.chainsel.specs.Paths.{IsFitLive, Descends}
use Rattle.chainsel.specs.declared.furthest.Walk.{Walk}

-- the block goes on from another by `n` blocks
pub record DescendsBy (store : Store) (invalid : List BlockHash) (new : Block) (n : ℕ) (b : Block) : Type 0 where
  pub descends : Descends store invalid new b
  pub count : length descends.path ≡ n

-- all blocks that go on from one by `n` blocks
abbrev pub AreEnds : Store → List BlockHash → (new : Block) → (n : ℕ) → (ends : List Block) → Type 0
AreEnds store invalid new n ends = (b : Block) → Contains ends b ↔ DescendsBy store invalid new n b

-- a live block against which nothing is known, that follows one of these
pub record IsNext (store : Store) (invalid : List BlockHash) (ends : List Block) (b : Block) : Type 0 where
  pub live : IsFitLive store invalid b
  pub end : Block
  pub member : Contains ends end
  pub follows : Follows (tip_at end) b

-- all live blocks against which nothing is known, that follow one of these
abbrev pub AreNext : Store → List BlockHash → (ends next : List Block) → Type 0
AreNext store invalid ends next = (b : Block) → Contains next b ↔ IsNext store invalid ends b

-- all blocks that go on from one by the greatest number of blocks by which any does
pub record AreFurthest (store : Store) (invalid : List BlockHash) (new : Block) (ends : List Block) : Type 0 where
  pub n : ℕ
  pub all : AreEnds store invalid new n ends
  pub some : ends ≢ []
  pub none_further : (b : Block) (m : ℕ) → DescendsBy store invalid new m b → m ≤ n

-- no block of these has a lesser hash
abbrev pub HasLeastHash : List Block → Block → Type 0
HasLeastHash blocks least =
    AllByRecursion (λ b. slice_cmp nat_cmp (block_hash_of least) (block_hash_of b) ≢ Greater) blocks

-- those of a walk's blocks that go on furthest
abbrev pub ends_of : {S : Type 0} → Walk S → List Block
ends_of walk = map (λ x. x.now) (drop walk.furthest walk.blocks.items)
