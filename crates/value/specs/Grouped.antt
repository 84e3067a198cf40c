-- Policies under which assets were put one after the other.
use Rattle.std.specs.Prelude.{◌≢◌, ℕ, List, [], ◌∷◌}
use Rattle.std.specs.declared.cmp.Ordering.TheVariants.{Equal}
use Rattle.model.specs.Value.{Token, Policy}
use Rattle.value.specs.Parts.{AssetQuantity}
use Rattle.value.specs.Order.{asset_cmp}

-- a policy's token as an asset
abbrev pub asset_under : {Q : Type 0} → List ℕ → Token Q → AssetQuantity Q
asset_under policy t = record { policy = policy; name = t.name; quantity = t.quantity }

-- it is of another policy than the first of these
abbrev pub IsApartFromFirst : {Q : Type 0} → Policy Q → List (Policy Q) → Type 0
IsApartFromFirst p [] = Unit {0}
IsApartFromFirst p (q ∷ qs) = p.id ≢ q.id

-- no policy is empty, and no two neighbours are one policy
abbrev pub IsGrouped : {Q : Type 0} → List (Policy Q) → Type 0
IsGrouped [] = Unit {0}
IsGrouped (p ∷ ps) = (p.tokens ≢ []) × IsApartFromFirst p ps × IsGrouped ps

-- an asset and those after it, of which no two neighbours are one asset
abbrev pub NeighboursDiffer : {Q : Type 0} → AssetQuantity Q → List (AssetQuantity Q) → Type 0
NeighboursDiffer a [] = Unit {0}
NeighboursDiffer a (b ∷ bs) = (asset_cmp a b ≢ Equal) × NeighboursDiffer b bs

-- no two neighbours of these are one asset
abbrev pub AllNeighboursDiffer : {Q : Type 0} → List (AssetQuantity Q) → Type 0
AllNeighboursDiffer [] = Unit {0}
AllNeighboursDiffer (a ∷ bs) = NeighboursDiffer a bs
