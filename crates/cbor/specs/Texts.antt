-- Texts in front of bytes, and after them.
use Rattle.std.specs.Prelude.{◌≡◌, ℕ, List, ◌++◌, length, take}

-- the bytes begin with a text that is spelled so, and these are left after it
pub record BeginsWithText (IsSpelled : List ℕ → Type 0) (bytes rest : List ℕ) : Type 0 where
  pub text : List ℕ
  pub spelled : IsSpelled text
  pub parts : bytes ≡ text ++ rest

-- what stood there before stands there still, in front
abbrev pub Keeps : List ℕ → List ℕ → Type 0
Keeps old new = take (length old) new ≡ old

-- a text that is spelled so was written after what stood there before
pub record Writes (IsSpelled : List ℕ → Type 0) (old new : List ℕ) : Type 0 where
  pub text : List ℕ
  pub spelled : IsSpelled text
  pub appended : new ≡ old ++ text
