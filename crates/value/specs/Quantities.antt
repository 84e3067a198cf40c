-- Reading a quantity: what stands first and the bytes after it, or None where no quantity stands there; and how
-- large quantities are.
use Rattle.std.specs.Prelude.{◌≡◌, ℕ, ℤ, pos, negsuc, neg_ℤ, ◌≤ℤ◌, ◌^◌, ◌&&◌, not, nat_lt, ◌==◌}
use Rattle.model.specs.Limits.{number_limit}
use Rattle.model.specs.Cbor.{Item, IsInRange, HasRisingKeys, nesting}
use Rattle.cbor.specs.Reading.{head_at}
use Rattle.cbor.specs.Shapes.{Reading, such_at, as_at, either_at}

-- of an output: from 1 on
unfoldable pub held_at : Reading ℕ
held_at bytes = such_at (λ n. not (n == 0)) (head_at 0) bytes

-- a quantity that is made: from 1 on, and below 2 ^ 63
unfoldable pub made_at : Reading ℤ
made_at bytes = as_at pos (such_at (λ n. not (n == 0) && nat_lt n number_limit) (head_at 0)) bytes

-- a quantity that is taken away, of which -2 ^ 63 is the last
unfoldable pub taken_away_at : Reading ℤ
taken_away_at bytes = as_at negsuc (such_at (λ n. nat_lt n number_limit) (head_at 1)) bytes

-- of what is minted
unfoldable pub minted_at : Reading ℤ
minted_at bytes = either_at made_at taken_away_at bytes

-- an item that has a text and no members, as a number does
pub record IsAlone (item : Item) : Type 0 where
  pub in_range : IsInRange item
  pub rising : HasRisingKeys item
  pub alone : nesting item ≡ 1

-- ---- bounds

-- the number lies as far from 0 as this, at most
pub record IsWithin (limit : ℕ) (z : ℤ) : Type 0 where
  pub low : neg_ℤ (pos limit) ≤ℤ z
  pub high : z ≤ℤ pos limit

-- no quantity lies farther from 0
abbrev pub quantity_limit : ℕ
quantity_limit = 2 ^ 64
