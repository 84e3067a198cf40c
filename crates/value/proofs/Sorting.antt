-- Assets that were sorted, and of which no two neighbours are one asset, rise.
use Rattle.std.proofs.Common.{◌≡◌, ◌≢◌, ℕ, suc, ◌+◌, false, List, [], ◌∷◌, map, get_or, subst, arith}
use Rattle.std.specs.List.Sorted.{IsSortedBy}
use Rattle.std.specs.Ordering.{is_lt, ordering_reverse}
use Rattle.std.specs.declared.cmp.Ordering.{Ordering}
use Rattle.std.specs.declared.cmp.Ordering.TheVariants.{Less, Equal, Greater}
use Rattle.value.specs.Parts.{AssetQuantity}
use Rattle.value.specs.Order.{asset_cmp}
use Rattle.value.specs.Grouped.{AllNeighboursDiffer}
use Rattle.value.proofs.Rising.{asset_cmp_total, Rise}

-- what is neither above nor the same is below
below_else : (o back : Ordering) → o ≡ ordering_reverse back → is_lt back ≡ false → o ≢ Equal → o ≡ Less
below_else o Less turned h apart = absurd cc
below_else o Equal turned h apart = absurd (apart turned)
below_else o Greater turned h apart = turned

module _ {X Q : Type 0} (f : X → AssetQuantity Q) where
  sorted_rest : (x : X) (xs : List X) → IsSortedBy (λ a b. is_lt (asset_cmp (f a) (f b))) (x ∷ xs) → IsSortedBy (λ a b. is_lt (asset_cmp (f a) (f b))) xs
  sorted_rest x xs h = λ k d low lt.
      let next : suc k + 1 ≡ suc (k + 1) = omega arith in
      subst (λ (n : ℕ). is_lt (asset_cmp (f (get_or (x ∷ xs) n d)) (f (get_or xs k d))) ≡ false) next (h (suc k) d (omega arith) (omega arith))

  pub rise_sorted : (xs : List X) → IsSortedBy (λ a b. is_lt (asset_cmp (f a) (f b))) xs → AllNeighboursDiffer (map f xs) → Rise (map f xs)
  rise_sorted [] h apart = tt
  rise_sorted (x ∷ []) h apart = (tt, tt)
  rise_sorted (x ∷ y ∷ ys) h apart = (
    below_else (asset_cmp (f x) (f y)) (asset_cmp (f y) (f x)) (asset_cmp_total.antisymm (f x) (f y)) (h 0 x (omega arith) (omega arith)) apart.0,
    rise_sorted (y ∷ ys) (sorted_rest x (y ∷ ys) h) apart.1,
  )
