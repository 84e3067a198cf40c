-- Which bytes the code has seen, and what it keeps of them.
use Rattle.std.specs.Prelude.{ℕ, List}
use Rattle.model.specs.Block.{block_text}
use Rattle.block.specs.declared.seen.Found.{Found}
use Rattle.block.specs.declared.seen.Found.TheVariants.{Block, Bad}
use Rattle.block.specs.declared.seen.Seen.TheInside.{Inside}
use Rattle.block.specs.Read.{IsRead, IsBadBytes}

-- the bytes: the text of the block, or those that are none
abbrev pub found_bytes : {S : Type 0} → Found S → List ℕ
found_bytes (Block block) = block_text block
found_bytes (Bad why bytes) = bytes.items

-- the block is read from its text, or the bytes are no block for this reason
abbrev pub IsFound : {S : Type 0} → Found S → Type 0
IsFound (Block block) = IsRead block (block_text block)
IsFound (Bad why bytes) = IsBadBytes bytes.items why

abbrev pub seen_bytes : {S : Type 0} → Inside S → List ℕ
seen_bytes s = found_bytes s.found

abbrev pub IsHeldSeen : {S : Type 0} → Inside S → Type 0
IsHeldSeen s = IsFound s.found
