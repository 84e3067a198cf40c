-- Records that stand one after the other at the front of bytes, by the lengths that they tell.
use Rattle.std.specs.Prelude.{◌≡◌, ℕ, ◌≤◌, List, [], ◌∷◌, ◌++◌, length, map, take, slice_get, IfSome}
use Rattle.std.specs.List.{AllByRecursion}
use Rattle.std.specs.Int.{w32, to_be_bytes}
use Rattle.sha2.specs.Sha256.{sha256}
use Rattle.model.specs.Limits.{hash_size}
use Rattle.model.specs.Log.{IsLogBlock, records}
use Rattle.immlog.specs.Frames.{NoRecordHere}
use Rattle.immlog.specs.declared.frames.Frame.{Frame}

-- the blocks, and the digest of each
abbrev pub framed_blocks : List Frame → List (List ℕ)
framed_blocks frames = map (λ frame. frame.block.now) frames

abbrev pub block_digests : List Frame → List (List ℕ)
block_digests frames = map (λ frame. sha256 frame.block.now) frames

-- these records with open gates, each with the digest that it tells, and then more bytes
abbrev pub framed : List Frame → List ℕ → List ℕ
framed [] more = more
framed (frame ∷ frames) more =
    1 ∷ (to_be_bytes w32 (length frame.block.now) ++ (frame.digest.now ++ (frame.block.now ++ framed frames more)))

-- a block of the log, and as many bytes as a digest has
pub record IsFrame (frame : Frame) : Type 0 where
  pub size : IsLogBlock frame.block.now
  pub long : length frame.digest.now ≡ hash_size

-- the bytes are these records and then more bytes
pub record AreFrames (bytes : List ℕ) (frames : List Frame) (more : List ℕ) : Type 0 where
  pub text : bytes ≡ framed frames more
  pub each : AllByRecursion IsFrame frames

-- the bytes begin with these records; where there are none, no record begins them
pub record AreFirstFrames (bytes : List ℕ) (frames : List Frame) : Type 0 where
  pub more : List ℕ
  pub are : AreFrames bytes frames more
  pub none : frames ≡ [] → NoRecordHere bytes

-- the record tells the digest that its block has
abbrev pub IsSound : Frame → Type 0
IsSound frame = frame.digest.now ≡ sha256 frame.block.now

-- the first `count` records do, and the next one, if there is one, doesn't
pub record IsSoundCount (frames : List Frame) (count : ℕ) : Type 0 where
  pub within : count ≤ length frames
  pub sound : AllByRecursion IsSound (take count frames)
  pub next : IfSome (slice_get frames count) (λ frame. IsSound frame → ⊥)

-- the bytes begin with the records of these blocks; where there are none, no record begins them
pub record BeginWith (bytes : List ℕ) (blocks : List (List ℕ)) : Type 0 where
  pub more : List ℕ
  pub text : bytes ≡ records blocks ++ more
  pub sizes : AllByRecursion IsLogBlock blocks
  pub none : blocks ≡ [] → NoRecordHere bytes
