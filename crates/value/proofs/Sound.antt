-- What was found of assets, before and after they were sorted.
use Rattle.std.proofs.Common.{◌≡◌, ℤ, pos, ◌<◌, List, [], ◌∷◌, map, length, arith}
use Rattle.std.specs.List.{AllByRecursion}
use Rattle.std.specs.List.Sorted.{IsPermutation}
use Rattle.std.proofs.lemmas.List.Elements.{All-from_recursion, recursion_from_All}
use Rattle.std.proofs.lemmas.List.Sorted.{All-permutation}
use Rattle.cbor.proofs.ForCallers.{AllByRecursion-bytes}
use Rattle.model.specs.Limits.{name_size_limit}
use Rattle.model.specs.Cbor.{Item}
use Rattle.value.specs.declared.asset_quantity.AssetQuantity.{AssetQuantity as CodeAssetQuantity}
use Rattle.value.specs.View.{asset_of}
use Rattle.value.specs.Parts.{AssetQuantity, HasLongName, HasZero}
use Rattle.value.specs.Checked.{IsNamed, IsCounted}
use Rattle.value.specs.Said.{IsSized}
use Rattle.value.proofs.Walks.{none_bad}
use Rattle.value.proofs.Saying.{IsReady}

pub no_long_name : {Q : Type 0} (assets : List (AssetQuantity Q)) → AllByRecursion IsNamed assets → HasLongName assets → ⊥
no_long_name assets = none_bad IsNamed (λ a. name_size_limit < length a.name) assets (λ a named long. let short = named.short in absurd (omega (arith, short, long)))

all_moved : {X : Type 0} (P : X → Type 0) (xs ys : List X) → IsPermutation xs ys → AllByRecursion P xs → AllByRecursion P ys
all_moved P xs ys same h = recursion_from_All P ys (All-permutation P xs ys same (All-from_recursion P xs h))

-- policies are 32 bytes
all_sized : {Q : Type 0} (xs : List (CodeAssetQuantity Q)) → AllByRecursion IsSized (map asset_of xs)
all_sized [] = tt
all_sized (x ∷ xs) = (record { long = x.policy.sized; bytes = AllByRecursion-bytes x.policy.bytes x.policy.fits }, all_sized xs)

module _ {Q : Type 0} (whole : Q → ℤ) (IsQuantity : Q → Type 0) (item_of : Q → Item) where
  pub no_zero : (assets : List (AssetQuantity Q)) → AllByRecursion (IsCounted whole IsQuantity item_of) assets → HasZero whole assets → ⊥
  no_zero assets = none_bad (IsCounted whole IsQuantity item_of) (λ a. whole a.quantity ≡ pos 0) assets (λ a counted zero. counted.counts zero)

  together : (assets : List (AssetQuantity Q)) → AllByRecursion IsSized assets → AllByRecursion IsNamed assets → AllByRecursion (IsCounted whole IsQuantity item_of) assets → AllByRecursion (IsReady whole IsQuantity item_of) assets
  together [] sized named counted = tt
  together (a ∷ assets) sized named counted = (record { sized = sized.0; named = named.0; counted = counted.0 }, together assets sized.1 named.1 counted.1)

  -- what was found of the assets as they were told holds as they stand now
  pub all_ready : (told : List (AssetQuantity Q)) (sorted : List (CodeAssetQuantity Q)) → IsPermutation told (map asset_of sorted) → AllByRecursion IsNamed told → AllByRecursion (IsCounted whole IsQuantity item_of) told
      → AllByRecursion (IsReady whole IsQuantity item_of) (map asset_of sorted)
  all_ready told sorted same named counted =
      together (map asset_of sorted) (all_sized sorted) (all_moved IsNamed told (map asset_of sorted) same named) (all_moved (IsCounted whole IsQuantity item_of) told (map asset_of sorted) same counted)
