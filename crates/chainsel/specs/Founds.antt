-- The blocks that a search has found dead, by their hashes.
use Rattle.std.specs.Prelude.{◌≡◌, ℕ, Bool, List, length, Contains, bytes_eq}
use Rattle.std.specs.List.{list_any}
use Rattle.std.specs.BTreeSet.{BTreeSet, contains}
use Rattle.std.specs.Ordering.{nat_cmp}
use Rattle.std.specs.Cmp.Lexicographic.{slice_cmp}
use Rattle.model.specs.Block.{Block, block_hash_of}
use Rattle.model.specs.Chain.{HaveDistinctHashes}
use Rattle.ident.specs.Kinds.{BlockHash}
use Rattle.blockstore.specs.Stored.{Store, blocks_of}

-- one of these hashes has these bytes
abbrev pub is_among : List ℕ → List BlockHash → Bool
is_among bytes found = list_any (λ hash. bytes_eq hash.bytes bytes) found

-- the set has just the bytes of these
abbrev pub AreHashesOf : BTreeSet (List ℕ) → List BlockHash → Type 0
AreHashesOf known found = (bytes : List ℕ) → contains (slice_cmp nat_cmp) known bytes ≡ is_among bytes found

-- they are those of live blocks, each found once
pub record AreFound (store : Store) (found : List BlockHash) : Type 0 where
  pub blocks : List Block
  pub distinct : HaveDistinctHashes blocks
  pub members : (b : Block) → Contains blocks b → Contains (blocks_of store) b
  pub named : (b : Block) → Contains blocks b
      → (hash : BlockHash) × Contains found hash × (hash.bytes ≡ block_hash_of b)
  pub count : length blocks ≡ length found
