-- What a scan asks of each stored block.
use Rattle.std.specs.Prelude.{ℕ, List, Bool, true, false, not, cond, Option, Some, None, bytes_eq, nat_lt}
use Rattle.model.specs.Block.{block_hash_of}
use Rattle.blockstore.specs.Stored.{Stored, marked}

-- the block has this hash
abbrev pub has_hash : List ℕ → Stored → Bool
has_hash hash s = bytes_eq (block_hash_of s.block) hash

-- the block has another one
abbrev pub lacks_hash : List ℕ → Stored → Bool
lacks_hash hash s = not (has_hash hash s)

-- the two name the same block, or both none
abbrev pub same_previous : Option (List ℕ) → Option (List ℕ) → Bool
same_previous None None = true
same_previous (Some hash) (Some other) = bytes_eq hash other
same_previous previous other = false

-- the block names this one as the block before it
abbrev pub names : Option (List ℕ) → Stored → Bool
names previous s = same_previous s.block.header.previous previous

-- the block's number is past this one
abbrev pub is_past : ℕ → Stored → Bool
is_past number s = nat_lt number s.block.header.number

-- the block with a mark, where it has this hash
abbrev pub marked_at : List ℕ → Stored → Stored
marked_at hash s = cond (has_hash hash s) (marked s) s
