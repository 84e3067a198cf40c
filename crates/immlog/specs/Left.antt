-- WHICH BYTES ARE LEFT BY A LOG (this project's own): empty; or whole records and then a closed gate, behind which
-- stands no more than one record may have left that was being written.
use Rattle.std.specs.Prelude.{◌≡◌, ◌≢◌, ◌⊎◌, ℕ, ◌+◌, ◌<◌, ◌≤◌, List, [], ◌∷◌, ◌++◌, length, take, drop}
use Rattle.std.specs.List.{AllByRecursion}
use Rattle.std.specs.Int.{w32, to_be_bytes}
use Rattle.model.specs.Limits.{block_size_limit}
use Rattle.model.specs.Log.{IsLogBlock, body_of, records, IsClosed, IsDamaged, at_rest}
use Rattle.immlog.specs.declared.look.Look.{Look}
use Rattle.immlog.specs.declared.part.LogEnd.{LogEnd}
use Rattle.immlog.specs.declared.part.LogEnd.TheVariants.{Clean, Torn, Foreign}
use Rattle.immlog.specs.declared.look.Look.TheVariants as look

-- only zeros
abbrev pub AreZeros : List ℕ → Type 0
AreZeros bytes = AllByRecursion (λ byte. byte ≡ 0) bytes

-- a whole record begins behind its gate, and then these bytes follow
pub record HasRecord (bytes more : List ℕ) : Type 0 where
  pub block : List ℕ
  pub size : IsLogBlock block
  pub text : bytes ≡ body_of block ++ more

-- the bytes begin with the length of a block
pub record TellsLength (bytes : List ℕ) (len : ℕ) : Type 0 where
  pub some : 0 < len
  pub within : len ≤ block_size_limit
  pub word : take 4 bytes ≡ to_be_bytes w32 len

-- No more bytes than a record has, except for its gate, and a gate behind it: as many as the length that they tell has
-- it, or, where that wasn't written whole, as many as the longest record has, and only zeros in the place of the
-- others.
abbrev pub IsShort : List ℕ → Type 0
IsShort bytes =
    ((length bytes ≤ block_size_limit + 37) × AreZeros (drop 3 bytes))
    ⊎ ((len : ℕ) × TellsLength bytes len × (length bytes ≤ 37 + len))

-- what may be left behind a gate by one record that was being written; behind a whole record there are only zeros
pub record IsLeftover (bytes : List ℕ) : Type 0 where
  pub short : IsShort bytes
  pub alone : (more : List ℕ) → HasRecord bytes more → AreZeros more

-- The end of a log: nothing, or a closed gate and what one record left. A gate that is neither open nor 0 was being
-- written, and then the record behind it was whole, or nothing was there.
abbrev pub IsLogEnd : List ℕ → Type 0
IsLogEnd [] = Unit {0}
IsLogEnd (gate ∷ behind) =
    (gate ≢ 1) × IsLeftover behind × ((gate ≡ 0) ⊎ ((behind ≡ []) ⊎ ((more : List ℕ) × HasRecord behind more)))

-- the end of a log at rest: a closed gate alone, or nothing
abbrev pub IsCleanEnd : List ℕ → Type 0
IsCleanEnd bytes = (bytes ≡ []) ⊎ (bytes ≡ 0 ∷ [])

-- how bytes end behind records
abbrev pub IsEndOf : List ℕ → LogEnd → Type 0
IsEndOf bytes Clean = IsLogEnd bytes × IsCleanEnd bytes
IsEndOf bytes Torn = IsLogEnd bytes × (IsCleanEnd bytes → ⊥)
IsEndOf bytes Foreign = IsLogEnd bytes → ⊥

-- a log left these bytes
pub record IsLeft (bytes : List ℕ) : Type 0 where
  pub blocks : List (List ℕ)
  pub rest : List ℕ
  pub text : bytes ≡ records blocks ++ rest
  pub sizes : AllByRecursion IsLogBlock blocks
  pub end : IsLogEnd rest

-- behind whole records, of which there is one at least, a closed gate stands at this place that ends no log
pub record EndsBadly (bytes : List ℕ) (place : ℕ) : Type 0 where
  pub blocks : List (List ℕ)
  pub rest : List ℕ
  pub text : bytes ≡ records blocks ++ rest
  pub sizes : AllByRecursion IsLogBlock blocks
  pub some : blocks ≢ []
  pub place_is : place ≡ length (records blocks)
  pub closed : IsClosed rest
  pub bad : IsLogEnd rest → ⊥

-- what bytes look like
abbrev pub IsLook : List ℕ → Look → Type 0
IsLook bytes look.Log = IsLeft bytes
IsLook bytes look.NoLog = IsClosed bytes × (IsLogEnd bytes → ⊥)
IsLook bytes (look.Damaged place) = IsDamaged bytes place ⊎ EndsBadly bytes place

-- ---- crashes

-- of a range that was being written a beginning of what was written, and then zeros
pub record IsTorn (written left : List ℕ) : Type 0 where
  pub first : ℕ
  pub zeros : List ℕ
  pub are : AreZeros zeros
  pub text : left ≡ take first written ++ zeros
  pub within : length left ≤ length written

-- the record of a block, except for its gate, and the closed gate behind it: what is written at once
abbrev pub staged : List ℕ → List ℕ
staged block = body_of block ++ 0 ∷ []

-- a crash left this of a log that had these blocks and was putting this one behind them: while its record was written,
-- or cut off again, and while its gate was written
pub record IsTornLog (blocks : List (List ℕ)) (block bytes : List ℕ) : Type 0 where
  pub sizes : AllByRecursion IsLogBlock blocks
  pub size : IsLogBlock block
  pub left :
      ((torn : List ℕ) × (bytes ≡ at_rest blocks ++ torn) × IsTorn (staged block) torn)
      ⊎ ((gate : ℕ) × (bytes ≡ records blocks ++ gate ∷ staged block))
