-- What is known of assets that were checked one by one.
use Rattle.std.specs.Prelude.{◌≢◌, ◌<◌, ◌≤◌, ℤ, pos, length}
use Rattle.std.specs.List.{AllByRecursion}
use Rattle.model.specs.Limits.{name_size_limit}
use Rattle.model.specs.Cbor.{Item}
use Rattle.value.specs.Quantities.{IsAlone}
use Rattle.value.specs.Parts.{AssetQuantity}

-- its name is bytes, and not too many
pub record IsNamed {Q : Type 0} (a : AssetQuantity Q) : Type 0 where
  pub short : length a.name ≤ name_size_limit
  pub bytes : AllByRecursion (λ b. b < 256) a.name

-- its quantity is not 0, and a text can say it
pub record IsCounted {Q : Type 0} (whole : Q → ℤ) (IsQuantity : Q → Type 0) (item_of : Q → Item)
    (a : AssetQuantity Q) : Type 0 where
  pub counts : whole a.quantity ≢ pos 0
  pub quantity : IsQuantity a.quantity
  pub item : IsAlone (item_of a.quantity)
