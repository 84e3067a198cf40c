-- Blocks that will never be in a valid chain.
use Rattle.std.specs.Prelude.{◌≡◌, ◌<◌, List, ◌++◌, Contains}
use Rattle.std.specs.List.{AllByRecursion}
use Rattle.model.specs.Block.{Block, block_hash_of}
use Rattle.model.specs.Ledger.{Network}
use Rattle.model.specs.Chain.{IsValidChain, immutable_length}

-- blocks of one hash and one number are one block
abbrev pub HaveOnePlace : List Block → Type 0
HaveOnePlace blocks =
    (a b : Block) → Contains blocks a → Contains blocks b → block_hash_of a ≡ block_hash_of b
    → a.header.number ≡ b.header.number → a ≡ b

-- no valid chain of these blocks has this one
abbrev pub IsUnused : Network → List Block → Block → Type 0
IsUnused network blocks b =
    (chain : List Block) → IsValidChain network chain → AllByRecursion (Contains blocks) chain → Contains chain b → ⊥

-- DEAD BLOCK (this project's own)
-- No valid chain has it that is made of blocks of the selected one, of live ones and of any that come later, in any
-- number. What comes later has a number past the immutable part, and is no other block of the hash and number of one
-- that is there.
abbrev pub IsDead : Network → (chain live : List Block) → Block → Type 0
IsDead network chain live b =
    (later : List Block) → AllByRecursion (λ c. immutable_length network chain < c.header.number) later
    → HaveOnePlace (later ++ (live ++ chain)) → IsUnused network (later ++ (live ++ chain)) b
