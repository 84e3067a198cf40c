-- The bytes of hashes, as keys compare them.
use Rattle.std.specs.Prelude.{◌≡◌, ◌<◌, ℕ, List, length, drop, slice_index}
use Rattle.std.specs.Int.{w64, from_be_bytes}
use Rattle.model.specs.Limits.{hash_size}

-- 32 bytes
abbrev pub IsSized : List ℕ → Type 0
IsSized hash = (length hash ≡ hash_size) × ((i : ℕ) → slice_index hash i < 256)

-- the eight bytes from this one on, as a number: the first of them counts most
abbrev pub word_at : ℕ → List ℕ → ℕ
word_at at bytes = from_be_bytes w64 (drop at bytes)
