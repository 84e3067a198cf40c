-- THE LOG OF BLOCKS (this project's own): a row of records and one closed gate after the last. A record is an open gate
-- (1), the length of the block in 4 bytes, the highest first, the SHA-256 (FIPS 180-4) of the block, and the block. A
-- gate that isn't open ends the log, and what follows it means nothing.
use Rattle.std.specs.Prelude.{◌≡◌, ◌≢◌, ◌⊎◌, ℕ, ◌<◌, ◌≤◌, List, [], ◌∷◌, ◌++◌, length}
use Rattle.std.specs.List.{AllByRecursion}
use Rattle.std.specs.Int.{w32, to_be_bytes}
use Rattle.sha2.specs.Sha256.{sha256}
use Rattle.model.specs.Limits.{block_size_limit}

-- a block of the log has at least one byte, and no more than are read of a block
pub record IsLogBlock (block : List ℕ) : Type 0 where
  pub some : 0 < length block
  pub within : length block ≤ block_size_limit

-- what stands behind the gate of a block's record
unfoldable pub body_of : List ℕ → List ℕ
body_of block = to_be_bytes w32 (length block) ++ sha256 block ++ block

-- the records of these blocks, one after the other
abbrev pub records : List (List ℕ) → List ℕ
records [] = []
records (block ∷ blocks) = 1 ∷ body_of block ++ records blocks

-- no record begins here: nothing is left, or the gate isn't open
abbrev pub IsClosed : List ℕ → Type 0
IsClosed [] = Unit {0}
IsClosed (gate ∷ rest) = gate ≢ 1

-- the bytes are a log of these blocks
pub record Opens (bytes : List ℕ) (blocks : List (List ℕ)) : Type 0 where
  pub rest : List ℕ
  pub text : bytes ≡ records blocks ++ rest
  pub closed : IsClosed rest
  pub sizes : AllByRecursion IsLogBlock blocks

-- The first open gate with no record behind it stands at this place: its record runs past the end, its length isn't
-- that of a block, or its digest is another.
pub record IsDamaged (bytes : List ℕ) (place : ℕ) : Type 0 where
  pub blocks : List (List ℕ)
  pub rest : List ℕ
  pub text : bytes ≡ records blocks ++ 1 ∷ rest
  pub sizes : AllByRecursion IsLogBlock blocks
  pub place_is : place ≡ length (records blocks)
  pub spoilt : (block more : List ℕ) → IsLogBlock block → rest ≡ body_of block ++ more → ⊥

-- ---- crashes

-- the bytes are a log of a beginning of these blocks, of `least` of them or more, and aren't damaged
pub record OpensToBeginning (least : ℕ) (blocks : List (List ℕ)) (bytes : List ℕ) : Type 0 where
  pub opened : List (List ℕ)
  pub next : List (List ℕ)
  pub opens : Opens bytes opened
  pub begins : blocks ≡ opened ++ next
  pub enough : least ≤ length opened
  pub sound : (place : ℕ) → IsDamaged bytes place → ⊥

-- a closed gate, whatever follows it
pub record IsShut (rest : List ℕ) : Type 0 where
  pub more : List ℕ
  pub text : rest ≡ 0 ∷ more

-- A gate that was being written, or closed again: behind it stand the next block of these, whole, and a closed gate.
-- While such a gate is written a crash may leave it open, and then this block is the last of the log.
pub record IsHalfOpen (next : List (List ℕ)) (rest : List ℕ) : Type 0 where
  pub gate : ℕ
  pub block : List ℕ
  pub later : List (List ℕ)
  pub more : List ℕ
  pub text : rest ≡ gate ∷ (body_of block ++ 0 ∷ more)
  pub half : gate ≢ 1
  pub comes : next ≡ block ∷ later

-- What a crash leaves of a log onto which these blocks were being put, the first `least` of them being sure: the
-- records of a beginning of them, and a gate that is closed or half open. A log that was left so stays so while it is
-- opened.
pub record IsLogOf (least : ℕ) (blocks : List (List ℕ)) (bytes : List ℕ) : Type 0 where
  pub first : List (List ℕ)
  pub next : List (List ℕ)
  pub rest : List ℕ
  pub text : bytes ≡ records first ++ rest
  pub begins : blocks ≡ first ++ next
  pub enough : least ≤ length first
  pub sizes : AllByRecursion IsLogBlock blocks
  pub gate : IsShut rest ⊎ IsHalfOpen next rest

-- a log at rest: the records of these blocks and a closed gate, all of it sure
abbrev pub at_rest : List (List ℕ) → List ℕ
at_rest blocks = records blocks ++ 0 ∷ []
