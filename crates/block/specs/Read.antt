-- What it means that bytes are read as a block, and each reason why they are not.
use Rattle.std.specs.Prelude.{◌≡◌, ◌≢◌, ℕ, ◌≤◌, ◌<◌, List, [], length}
use Rattle.model.specs.Limits.{block_size_limit}
use Rattle.model.specs.Block.{Block, SpellsBlock, body_hash_of}
use Rattle.cbor.specs.Bare.{BeginsWithHead}
use Rattle.block.specs.declared.fault.BadBytes.{BadBytes}
use Rattle.block.specs.declared.fault.BadBytes.TheVariants as bad
use Rattle.block.specs.declared.fault.ReadFault.{ReadFault}
use Rattle.block.specs.declared.fault.ReadFault.TheVariants.{TooLarge, Malformed, BodyHashMismatch, OutOfMemory}

-- the bytes are read as this block: they spell it, they are not too many, and its body has the hash that
-- its header names
pub record IsRead (block : Block) (bytes : List ℕ) : Type 0 where
  pub read : SpellsBlock block bytes
  pub size : length bytes ≤ block_size_limit
  pub body : block.header.body_hash ≡ body_hash_of block.transactions

-- the bytes spell no block
pub record IsMalformed (bytes : List ℕ) : Type 0 where
  pub size : length bytes ≤ block_size_limit
  pub no_block : (b : Block) → SpellsBlock b bytes → ⊥

-- the bytes spell a block whose body has another hash than its header names
pub record IsMismatched (bytes : List ℕ) : Type 0 where
  pub size : length bytes ≤ block_size_limit
  pub block : Block
  pub read : SpellsBlock block bytes
  pub body : block.header.body_hash ≢ body_hash_of block.transactions

-- bytes begin as the text of a block does: with the head of an array of two
abbrev pub BeginsLikeBlock : List ℕ → Type 0
BeginsLikeBlock bytes = BeginsWithHead 4 2 bytes

-- The bytes are not too many, begin as a block does, and spell no block without transactions: memory is asked for by
-- transactions alone.
pub record IsUnread (bytes : List ℕ) : Type 0 where
  pub size : length bytes ≤ block_size_limit
  pub begins : BeginsLikeBlock bytes
  pub full : (b : Block) → SpellsBlock b bytes → b.transactions ≡ [] → ⊥

-- when each reason comes why bytes are no block, whatever the memory: the first one that applies
abbrev pub IsBadBytes : List ℕ → BadBytes → Type 0
IsBadBytes bytes bad.TooLarge = block_size_limit < length bytes
IsBadBytes bytes bad.Malformed = IsMalformed bytes
IsBadBytes bytes bad.BodyHashMismatch = IsMismatched bytes

-- The bytes are not too many and begin as a block does, and where they spell a block without transactions they are
-- read as it, if only there is memory for it.
pub record IsReadable (bytes : List ℕ) : Type 0 where
  pub size : length bytes ≤ block_size_limit
  pub begins : BeginsLikeBlock bytes
  pub empty : (b : Block) → SpellsBlock b bytes → b.transactions ≡ [] → IsRead b bytes

-- when each fault comes: the first reason that applies, or OutOfMemory
abbrev pub IsReadFault : List ℕ → ReadFault → Type 0
IsReadFault bytes TooLarge = block_size_limit < length bytes
IsReadFault bytes Malformed = IsMalformed bytes
IsReadFault bytes BodyHashMismatch = IsMismatched bytes
IsReadFault bytes OutOfMemory = IsReadable bytes

-- the fault that bad bytes are at a reading
abbrev pub bad_fault : BadBytes → ReadFault
bad_fault bad.TooLarge = TooLarge
bad_fault bad.Malformed = Malformed
bad_fault bad.BodyHashMismatch = BodyHashMismatch
