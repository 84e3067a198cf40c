-- Bytes that a reader gives, one record after the other.
use Rattle.std.specs.Prelude.{◌≡◌, ℕ, ◌+◌, ◌<◌, ◌≤◌, List, [], ◌∷◌, ◌++◌, length, take, Option, Some, None}
use Rattle.std.specs.List.{AllByRecursion}
use Rattle.std.specs.Io.KnownBytes.{Consumes, IsAtEnd}
use Rattle.model.specs.Limits.{block_size_limit}
use Rattle.model.specs.Log.{IsLogBlock, body_of, records, IsClosed}
use Rattle.immlog.specs.Frames.{NoRecordBehind, IsOpenInVain}
use Rattle.immlog.specs.Left.{IsEndOf}
use Rattle.immlog.specs.declared.part.LogPart.{LogPart}
use Rattle.immlog.specs.declared.part.LogPart.TheVariants as parts

-- of what a reader had left it gave the first `count` bytes of the room, fewer than there was room for only at the end
pub record IsFilled (old new : Option (List ℕ)) (room : List ℕ) (count : ℕ) : Type 0 where
  pub within : count ≤ length room
  pub taken : Consumes old new (take count room)
  pub end : count < length room → IsAtEnd new

-- the next byte, if there is one, was taken
abbrev pub IsNextByte : Option ℕ → Option (List ℕ) → List ℕ → Type 0
IsNextByte None new bytes = bytes ≡ []
IsNextByte (Some byte) new bytes = (rest : List ℕ) × (bytes ≡ byte ∷ rest) × (new ≡ Some rest)

-- the record of a block, except for its gate, was taken from the bytes: `len` bytes, which stand first in the room
pub record IsTaken (bytes : List ℕ) (new : Option (List ℕ)) (room : List ℕ) (len : ℕ) : Type 0 where
  pub block : List ℕ
  pub more : List ℕ
  pub size : IsLogBlock block
  pub text : bytes ≡ body_of block ++ more
  pub left : new ≡ Some more
  pub long : len ≡ 36 + length block
  pub held : take len room ≡ body_of block

-- it was, or there is none
abbrev pub IsBody : List ℕ → Option (List ℕ) → (room : List ℕ) → Option ℕ → Type 0
IsBody bytes new room None = NoRecordBehind bytes
IsBody bytes new room (Some len) = IsTaken bytes new room len

-- what stands where the reader is: a record with its open gate, which was taken; an open gate alone; or an end
abbrev pub IsPart : List ℕ → Option (List ℕ) → (room : List ℕ) → LogPart → Type 0
IsPart bytes new room (parts.Record len) = (rest : List ℕ) × (bytes ≡ 1 ∷ rest) × IsTaken rest new room len
IsPart bytes new room parts.Vain = IsOpenInVain bytes
IsPart bytes new room (parts.End end) = IsClosed bytes × IsEndOf bytes end

-- a record that was taken has as many bytes as one may have
abbrev pub IsSmallPart : LogPart → Type 0
IsSmallPart (parts.Record len) = (36 ≤ len) × (len ≤ block_size_limit + 36)
IsSmallPart parts.Vain = Unit {0}
IsSmallPart (parts.End end) = Unit {0}

-- whole records were taken from the bytes, up to this place
pub record IsWalked (bytes : List ℕ) (new : Option (List ℕ)) (place : ℕ) : Type 0 where
  pub blocks : List (List ℕ)
  pub rest : List ℕ
  pub text : bytes ≡ records blocks ++ rest
  pub sizes : AllByRecursion IsLogBlock blocks
  pub place_is : place ≡ length (records blocks)
  pub left : new ≡ Some rest
