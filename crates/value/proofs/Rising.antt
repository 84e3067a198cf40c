-- Assets that rise strictly, by policy and then by name.
use Rattle.std.proofs.Common.{◌≡◌, ℕ, List, [], ◌∷◌, length}
use Rattle.std.specs.List.{AllByRecursion}
use Rattle.std.specs.declared.cmp.Ordering.TheVariants.{Less}
use Rattle.std.specs.Cmp.{IsTotalOrder}
use Rattle.std.proofs.lemmas.Cmp.{nat_cmp_total, nat_list_cmp_total, on_total, then_total}
use Rattle.value.specs.Parts.{AssetQuantity}
use Rattle.value.specs.Order.{name_cmp, asset_cmp}

pub name_cmp_total : IsTotalOrder name_cmp
name_cmp_total = then_total (on_total (λ (name : List ℕ). length name) nat_cmp_total) nat_list_cmp_total

-- the order of assets is a total one, which the quantity has no part in
pub asset_cmp_total : {Q : Type 0} → IsTotalOrder (asset_cmp {Q = Q})
asset_cmp_total {Q} = then_total (on_total (λ (a : AssetQuantity Q). a.policy) nat_list_cmp_total) (on_total (λ (a : AssetQuantity Q). a.name) name_cmp_total)

module _ {Q : Type 0} where
  -- it stands before the first of these
  abbrev pub IsBelowFirst : AssetQuantity Q → List (AssetQuantity Q) → Type 0
  IsBelowFirst a [] = Unit {0}
  IsBelowFirst a (b ∷ bs) = asset_cmp a b ≡ Less

  -- each stands before the next
  abbrev pub Rise : List (AssetQuantity Q) → Type 0
  Rise [] = Unit {0}
  Rise (a ∷ bs) = IsBelowFirst a bs × Rise bs

  -- what stands before the first stands before each
  pub below_all : (a : AssetQuantity Q) (bs : List (AssetQuantity Q)) → IsBelowFirst a bs → Rise bs → AllByRecursion (λ b. asset_cmp a b ≡ Less) bs
  below_all a [] first rise = tt
  below_all a (b ∷ []) first rise = (first, tt)
  below_all a (b ∷ c ∷ cs) first rise =
      (first, below_all a (c ∷ cs) (asset_cmp_total.trans a b c first rise.0) rise.1)
