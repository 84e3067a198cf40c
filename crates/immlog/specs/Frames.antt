-- Records as they are found by the lengths that they tell, before their digests are compared and after.
use Rattle.std.specs.Prelude.{◌≡◌, ℕ, List, ◌∷◌, ◌++◌, length}
use Rattle.std.specs.Int.{w32, to_be_bytes}
use Rattle.sha2.specs.Sha256.{sha256}
use Rattle.model.specs.Limits.{hash_size}
use Rattle.model.specs.Log.{IsLogBlock, body_of}

-- except for its digest, which is this one, the record of the block begins behind its gate
pub record BeginsWithFrame (digest block bytes : List ℕ) : Type 0 where
  pub more : List ℕ
  pub size : IsLogBlock block
  pub long : length digest ≡ hash_size
  pub text : bytes ≡ to_be_bytes w32 (length block) ++ (digest ++ (block ++ more))

-- the record of the block begins behind its gate, and this is its digest
pub record BeginsWithRecord (digest block bytes : List ℕ) : Type 0 where
  pub frame : BeginsWithFrame digest block bytes
  pub same : digest ≡ sha256 block

-- no record of any block begins behind its gate
abbrev pub NoRecordBehind : List ℕ → Type 0
NoRecordBehind bytes = (block more : List ℕ) → IsLogBlock block → bytes ≡ body_of block ++ more → ⊥

-- no record of any block begins here
abbrev pub NoRecordHere : List ℕ → Type 0
NoRecordHere bytes = (block more : List ℕ) → IsLogBlock block → bytes ≡ 1 ∷ (body_of block ++ more) → ⊥

-- an open gate, behind which no record begins
pub record IsOpenInVain (bytes : List ℕ) : Type 0 where
  pub rest : List ℕ
  pub text : bytes ≡ 1 ∷ rest
  pub none : NoRecordBehind rest
