-- The lines of a record of a log.
use Rattle.std.specs.Prelude.{◌≡◌, ◌⊎◌, ℕ, List, [], ◌++◌, length, codes}
use Rattle.model.specs.Block.{Block, block_hash_of}
use Rattle.block.specs.Read.{IsRead, IsBadBytes}
use Rattle.block.specs.declared.fault.BadBytes.{BadBytes}
use Rattle.showing.specs.Lines.{words_line, number_line, bytes_line}

-- what is told of a block there: its hash, its number and its slot
abbrev pub lines_of_facts : Block → List ℕ
lines_of_facts block =
    bytes_line (codes "  ") (codes "block") (block_hash_of block)
    ++ (number_line (codes "  ") (codes "number") block.header.number
    ++ number_line (codes "  ") (codes "slot") block.header.slot)

-- the same of bytes, which are read as a block, or are none
abbrev pub AreFactsOf : (bytes lines : List ℕ) → Type 0
AreFactsOf bytes lines =
    ((block : Block) × IsRead block bytes × (lines ≡ lines_of_facts block))
    ⊎ ((bad : BadBytes) × IsBadBytes bytes bad × (lines ≡ words_line (codes "  ") (codes "no block")))

-- which record it is, where it begins, in bytes, and how many bytes its block has
abbrev pub record_head : (number place size : ℕ) → List ℕ
record_head number place size =
    number_line [] (codes "record") number
    ++ (number_line (codes "  ") (codes "place") place ++ number_line (codes "  ") (codes "size") size)

-- THE LINES OF A RECORD: that, and indented what is told of its block
pub record AreLinesOfRecord (number place : ℕ) (block lines : List ℕ) : Type 0 where
  pub facts : List ℕ
  pub are : AreFactsOf block facts
  pub text : lines ≡ record_head number place (length block) ++ facts
