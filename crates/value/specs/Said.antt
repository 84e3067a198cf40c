-- Policies that a text can say.
use Rattle.std.specs.Prelude.{◌≡◌, ◌<◌, ◌≤◌, List, length}
use Rattle.std.specs.List.{AllByRecursion}
use Rattle.model.specs.Limits.{hash_size}
use Rattle.model.specs.Cbor.{Item, IsInRange, HasRisingKeys, nesting}
use Rattle.model.specs.Value.{Policy, IsPolicy, item_of_assets}
use Rattle.value.specs.Parts.{AssetQuantity}

-- its policy is named by 32 bytes
pub record IsSized {Q : Type 0} (a : AssetQuantity Q) : Type 0 where
  pub long : length a.policy ≡ hash_size
  pub bytes : AllByRecursion (λ b. b < 256) a.policy

-- the map of the policies has a text, and nests no deeper than this
pub record AreSaid {Q : Type 0} (IsQuantity : Q → Type 0) (item_of : Q → Item)
    (policies : List (Policy Q)) : Type 0 where
  pub are_policies : AllByRecursion (IsPolicy IsQuantity) policies
  pub in_range : IsInRange (item_of_assets item_of policies)
  pub rising : HasRisingKeys (item_of_assets item_of policies)
  pub nests : nesting (item_of_assets item_of policies) ≤ 3
