-- What the core says of a block that was read: a refusal, the first one that applies, or none.
use Rattle.std.specs.Prelude.{◌≡◌, ℕ, List, Option, MatchOption}
use Rattle.ident.specs.declared.point.Point.{Point}
use Rattle.block.specs.Read.{IsRead}
use Rattle.model.specs.Block.{Block, block_hash_of}
use Rattle.model.specs.Ledger.{Network}
use Rattle.model.specs.History.{State, Refusal, Applies, IsRefused}

-- the point has the number and the hash of the block
abbrev pub IsPointOf : Point → Block → Type 0
IsPointOf point b = (point.number ≡ b.header.number) × (point.hash.bytes ≡ block_hash_of b)

-- the answer of a state to the bytes of a block that was read
abbrev pub IsFirstRefusal : Network → State → Block → Option Refusal → Type 0
IsFirstRefusal network s b answer = (bytes : List ℕ) → IsRead b bytes → MatchOption answer
    ((refusal : Refusal) → Applies network s bytes refusal → ⊥)
    (IsRefused network s bytes)
