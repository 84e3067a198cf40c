-- The words in which a block is shown to who looks for a fault.
use Rattle.std.specs.Prelude.{ℕ, List, ◌++◌, decimal, codes}
use Rattle.hex.specs.Hex.{encode_lower}
use Rattle.model.specs.Block.{Block, block_hash_of}

-- the name of its type, its number, and its hash in 64 lower case hexadecimal digits
abbrev pub block_shown : List ℕ → Block → List ℕ
block_shown name block =
    name ++ codes "(" ++ decimal block.header.number ++ codes " " ++ encode_lower (block_hash_of block) ++ codes ")"
