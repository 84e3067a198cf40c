-- What a shelf of the code stands for, and how its parts keep step.
use Rattle.std.specs.Prelude.{◌≡◌, ◌≤◌, length, map, Contains}
use Rattle.std.specs.BTreeMap.{IsOrdered}
use Rattle.std.specs.BTreeSet.{contains}
use Rattle.model.specs.Block.{block_text, bytes_in}
use Rattle.model.specs.Limits.{block_size_limit}
use Rattle.blockstore.specs.Stored.{Stored}
use Rattle.blockstore.specs.Placed.{Held, held_in, blocks_in, stored_at, IsKeyed}
use Rattle.blockstore.specs.Keys.{hash_cmp, link_cmp, age_cmp, IsLinkOf, IsAgeOf, AreKeysOf}
use Rattle.blockstore.specs.declared.shelf.Shelf.TheInside.{Inside}

-- the blocks, and what is noted of them
abbrev pub held_on : {S : Type 0} → Inside S → Held
held_on a = held_in a.blocks

-- each block stands at its hash, and has a link and an age, and nothing else has; how many bytes all have is counted,
-- and none has more than a block may have
pub record IsInStep {S : Type 0} (a : Inside S) : Type 0 where
  pub ordered : IsOrdered hash_cmp a.blocks
  pub keyed : IsKeyed a.blocks
  pub links : AreKeysOf IsLinkOf (contains link_cmp a.links) (stored_at a.blocks)
  pub ages : AreKeysOf IsAgeOf (contains age_cmp a.ages) (stored_at a.blocks)
  pub counted : a.bytes ≡ bytes_in (map (λ s. s.block) (blocks_in a.blocks))
  pub sized : (x : Stored) → Contains (blocks_in a.blocks) x → length (block_text x.block) ≤ block_size_limit
