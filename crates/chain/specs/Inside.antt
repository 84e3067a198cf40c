-- What the fields of a chain stand for, and what it keeps.
use Rattle.std.specs.Prelude.{◌≡◌, ◌<◌, length, map, vec_capacity}
use Rattle.model.specs.Block.{block_hash_of}
use Rattle.model.specs.Chain.{genesis_tip, IsLinked}
use Rattle.block.specs.View.{bytes_of}
use Rattle.chain.specs.Chained.{Chained}
use Rattle.chain.specs.Noted.{noted}
use Rattle.chain.specs.declared.chain.Chain.TheInside.{Inside}

-- the chain that the fields stand for
abbrev pub held : {S : Type 0} → Inside S → Chained
held a = record { gone = noted a.gone.items; resident = a.resident.items; room = vec_capacity a.resident }

-- The blocks that left memory are linked from genesis on, and the hash of each is kept, at its place. Where any left,
-- one is in memory.
pub record IsHeld {S : Type 0} (a : Inside S) : Type 0 where
  pub hashes : map bytes_of a.hashes.items ≡ map block_hash_of (noted a.gone.items)
  pub linked : IsLinked genesis_tip (noted a.gone.items)
  pub last : 0 < length (noted a.gone.items) → 0 < length a.resident.items
