-- The first asset of which a sum is not 0, and the first name of a policy.
use Rattle.std.specs.Prelude.{◌≡◌, ◌≢◌, ℕ, ℤ, pos, List}
use Rattle.std.specs.List.{Contains}
use Rattle.std.specs.declared.cmp.Ordering.TheVariants.{Less}
use Rattle.model.specs.Value.{Asset}
use Rattle.model.specs.Explaining.{name_cmp, asset_cmp}

-- its sum is not 0, and that of each asset that comes before it is
pub record IsFirstOff (total : Asset → ℤ) (asset : Asset) : Type 0 where
  pub differs : total asset ≢ pos 0
  pub first : (other : Asset) → asset_cmp other asset ≡ Less → total other ≡ pos 0

-- the name is listed, and none that is comes before it
pub record IsFirstName (names : List (List ℕ × ℤ)) (name : List ℕ) : Type 0 where
  pub there : (sum : ℤ) × Contains names (name, sum)
  pub first : (other : List ℕ) (sum : ℤ) → Contains names (other, sum) → name_cmp other name ≢ Less
