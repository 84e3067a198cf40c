-- The lines of a block, in the order of its text.
use Rattle.std.specs.Prelude.{ℕ, List, [], ◌++◌, length, Option, Some, None, codes, flat_map}
use Rattle.model.specs.Signature.{Verifies}
use Rattle.model.specs.Block.{Header, Block, block_text, block_hash_of, body_size_of}
use Rattle.showing.specs.Lines.{words_line, number_line, bytes_line}
use Rattle.showing.specs.Transactions.{lines_of_transaction}

-- the hash of the block before, or `null`
abbrev pub previous_line : Option (List ℕ) → List ℕ
previous_line None = words_line [] (codes "previous null")
previous_line (Some hash) = bytes_line [] (codes "previous") hash

-- number, slot, the block before, and the hash of the body
abbrev pub lines_of_header : Header → List ℕ
lines_of_header header =
    number_line [] (codes "number") header.number
    ++ (number_line [] (codes "slot") header.slot
    ++ (previous_line header.previous ++ bytes_line [] (codes "body_hash") header.body_hash))

-- THE LINES OF A BLOCK: its hash, its size in bytes, its header, the size of its body in bytes, how many transactions
-- it has, and indented each of these
abbrev pub lines_of_block : Verifies → Block → List ℕ
lines_of_block verifies block =
    bytes_line [] (codes "block") (block_hash_of block)
    ++ (number_line [] (codes "size") (length (block_text block))
    ++ (lines_of_header block.header
    ++ (number_line [] (codes "body_size") (body_size_of block)
    ++ (number_line [] (codes "transactions") (length block.transactions)
    ++ flat_map (lines_of_transaction verifies (codes "  ")) block.transactions))))
