-- Values and mints by their parts: how much there is of each asset, in whatever order it is told (Shelley-MA, token
-- maps as finite maps from policies and names to quantities). Which fault is told first is this project's own.
use Rattle.std.specs.Prelude.{◌≡◌, ℕ, ◌<◌, ℤ, pos, Bool, ◌&&◌, List, [], ◌∷◌, ◌++◌, length, bytes_eq}
use Rattle.std.specs.List.{Any, count_by}
use Rattle.std.specs.List.Sorted.{IsPermutation}
use Rattle.model.specs.Limits.{name_size_limit}
use Rattle.model.specs.Value.{Token, Policy, Value, Mint}
use Rattle.value.specs.declared.asset_fault.AssetFault.{AssetFault}
use Rattle.value.specs.declared.asset_fault.AssetFault.TheVariants as faults

-- how much there is of one asset: of what a policy has under a name
pub record AssetQuantity (Q : Type 0) : Type 0 where
  pub policy : List ℕ
  pub name : List ℕ
  pub quantity : Q

-- those of one policy
abbrev pub assets_under : {Q : Type 0} → List ℕ → List (Token Q) → List (AssetQuantity Q)
assets_under policy [] = []
assets_under policy (t ∷ ts) =
    record { policy = policy; name = t.name; quantity = t.quantity } ∷ assets_under policy ts

-- those of all policies, laid out flat: one policy after the other
abbrev pub flat_assets : {Q : Type 0} → List (Policy Q) → List (AssetQuantity Q)
flat_assets [] = []
flat_assets (p ∷ ps) = assets_under p.id p.tokens ++ flat_assets ps

-- the value has this coin, and just these assets
pub record IsValueOf (value : Value) (coin : ℕ) (assets : List (AssetQuantity ℕ)) : Type 0 where
  pub same_coin : value.coin ≡ coin
  pub same_assets : IsPermutation assets (flat_assets value.assets)

-- the mint has just these assets
abbrev pub IsMintOf : Mint → List (AssetQuantity ℤ) → Type 0
IsMintOf mint assets = IsPermutation assets (flat_assets mint)

-- ---- what may be wrong with assets

-- a name has more than 32 bytes
abbrev pub HasLongName : {Q : Type 0} → List (AssetQuantity Q) → Type 0
HasLongName assets = Any (λ a. name_size_limit < length a.name) assets

-- a quantity is 0, each read as a whole number
abbrev pub HasZero : {Q : Type 0} → (Q → ℤ) → List (AssetQuantity Q) → Type 0
HasZero whole assets = Any (λ a. whole a.quantity ≡ pos 0) assets

-- it is a quantity of what the policy has under the name
abbrev pub is_of : {Q : Type 0} → (policy name : List ℕ) → AssetQuantity Q → Bool
is_of policy name a = bytes_eq policy a.policy && bytes_eq name a.name

-- an asset stands there more than once
abbrev pub HasRepeats : {Q : Type 0} → List (AssetQuantity Q) → Type 0
HasRepeats assets = (policy : List ℕ) × (name : List ℕ) × (1 < count_by (is_of policy name) assets)

-- the first fault of the assets; OutOfMemory is told only where they have none
abbrev pub IsAssetFault : {Q : Type 0} → (Q → ℤ) → List (AssetQuantity Q) → AssetFault → Type 0
IsAssetFault whole assets faults.NameTooLong = HasLongName assets
IsAssetFault whole assets faults.ZeroQuantity = ¬ HasLongName assets × HasZero whole assets
IsAssetFault whole assets faults.Repeated = ¬ HasLongName assets × ¬ HasZero whole assets × HasRepeats assets
IsAssetFault whole assets faults.OutOfMemory = ¬ HasLongName assets × ¬ HasZero whole assets × ¬ HasRepeats assets

-- a fact that holds where the assets are at fault
abbrev pub IfAtFault : AssetFault → Type 0 → Type 0
IfAtFault faults.NameTooLong P = P
IfAtFault faults.ZeroQuantity P = P
IfAtFault faults.Repeated P = P
IfAtFault faults.OutOfMemory P = Unit {0}
