-- Blocks of a log by their numbers, which count from 1 as those of a chain.
use Rattle.std.specs.Prelude.{◌≡◌, ℕ, zero, suc, ◌+◌, List, length, take, Option, None, Some, slice_get}
use Rattle.sha2.specs.Sha256.{sha256}
use Rattle.model.specs.Log.{records}
use Rattle.immlog.specs.declared.index.Span.{Span}

-- the block of a number, if there is one
abbrev pub numbered : List (List ℕ) → ℕ → Option (List ℕ)
numbered blocks zero = None
numbered blocks (suc n) = slice_get blocks n

-- the bytes have the length and the SHA-256 of the block of this number
pub record IsLike (blocks : List (List ℕ)) (number : ℕ) (bytes : List ℕ) : Type 0 where
  pub block : List ℕ
  pub is_block : numbered blocks number ≡ Some block
  pub long : length bytes ≡ length block
  pub same : sha256 bytes ≡ sha256 block

-- where the block of this number stands in a log of these, and what its digest is
pub record IsSpan (blocks : List (List ℕ)) (number : ℕ) (span : Span) : Type 0 where
  pub before : ℕ
  pub number_is : number ≡ suc before
  pub block : List ℕ
  pub is_block : slice_get blocks before ≡ Some block
  pub place : span.place ≡ length (records (take before blocks)) + 37
  pub long : span.len ≡ length block
  pub digest : span.digest ≡ sha256 block
