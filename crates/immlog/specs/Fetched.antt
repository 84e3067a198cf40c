-- A block that is read again from a disk.
use Rattle.std.specs.Prelude.{◌≡◌, ℕ, List, ◌++◌, length, Option, None, Some, Vec}
use Rattle.std.specs.declared.alloc.Global.{Global}
use Rattle.sha2.specs.Sha256.{sha256}
use Rattle.immlog.specs.declared.index.Span.{Span}

-- the bytes have this block where it should stand
pub record IsThere (bytes : List ℕ) (span : Span) (block : List ℕ) : Type 0 where
  pub before : List ℕ
  pub after : List ℕ
  pub text : bytes ≡ before ++ (block ++ after)
  pub place : span.place ≡ length before
  pub long : span.len ≡ length block
  pub digest : span.digest ≡ sha256 block

-- it was read
abbrev pub IsFetched : List ℕ → Option (Vec ℕ Global) → Type 0
IsFetched block None = ⊥
IsFetched block (Some bytes) = bytes.items ≡ block
