-- Assets that stand there twice.
use Rattle.std.proofs.Common.{◌≡◌, ◌≢◌, ℕ, ◌+◌, ◌<◌, ◌≤◌, Bool, true, false, ◌&&◌, cond, List, ◌∷◌, length, refl, sym, ap, subst, ◌∙◌, arith}
use Rattle.std.specs.Prelude.{bytes_eq}
use Rattle.std.specs.List.{count_by}
use Rattle.std.specs.List.Sorted.{IsPermutation}
use Rattle.std.specs.Ordering.{nat_cmp, ordering_then}
use Rattle.std.specs.declared.cmp.Ordering.{Ordering}
use Rattle.std.specs.declared.cmp.Ordering.TheVariants.{Less, Equal, Greater}
use Rattle.std.specs.Cmp.Lexicographic.{slice_cmp}
use Rattle.std.proofs.lemmas.List.Sorted.{sum_by-IsPermutation}
use Rattle.std.proofs.lemmas.List.Sums.{sum_by-cons}
use Rattle.std.proofs.lemmas.Map.Lookups.{exact_bytes}
use Rattle.byte_keys.proofs.ForCallers.{bytes_self}
use Rattle.value.specs.Parts.{AssetQuantity, is_of, HasRepeats}
use Rattle.value.specs.Order.{name_cmp, asset_cmp}
use Rattle.value.specs.Grouped.{NeighboursDiffer, AllNeighboursDiffer}

-- where the second decides too, both are equal
both_equal : (o n : Ordering) → ordering_then o n ≡ Equal → (o ≡ Equal) × (n ≡ Equal)
both_equal Less n h = absurd cc
both_equal Equal n h = (refl, h)
both_equal Greater n h = absurd cc

-- names that tie are the same
same_names : (a b : List ℕ) → name_cmp a b ≡ Equal → a ≡ b
same_names a b h = exact_bytes a b (both_equal (nat_cmp (length a) (length b)) (slice_cmp nat_cmp a b) h).1

both_true : (a b : Bool) → a ≡ true → b ≡ true → a && b ≡ true
both_true true b p q = q
both_true false b p q = absurd cc

module _ {Q : Type 0} where
  -- assets that tie are of one policy and name
  pub same_asset : (a b : AssetQuantity Q) → asset_cmp a b ≡ Equal → is_of a.policy a.name b ≡ true
  same_asset a b h =
      let two = both_equal (slice_cmp nat_cmp a.policy b.policy) (name_cmp a.name b.name) h in
      let policies : a.policy ≡ b.policy = exact_bytes a.policy b.policy two.0 in
      let names : a.name ≡ b.name = same_names a.name b.name two.1 in
      both_true (bytes_eq a.policy b.policy) (bytes_eq a.name b.name) (ap (bytes_eq a.policy) (sym policies) ∙ bytes_self a.policy) (ap (bytes_eq a.name) (sym names) ∙ bytes_self a.name)

  is_itself : (a : AssetQuantity Q) → is_of a.policy a.name a ≡ true
  is_itself a = both_true (bytes_eq a.policy a.policy) (bytes_eq a.name a.name) (bytes_self a.policy) (bytes_self a.name)

  counted_one : (p : AssetQuantity Q → Bool) (a : AssetQuantity Q) (bs : List (AssetQuantity Q)) → p a ≡ true → count_by p (a ∷ bs) ≡ 1 + count_by p bs
  counted_one p a bs h = sum_by-cons (λ x. cond (p x) 1 0) a bs ∙ ap (λ (b : Bool). cond b 1 0 + count_by p bs) h

  counted_more : (p : AssetQuantity Q → Bool) (a : AssetQuantity Q) (bs : List (AssetQuantity Q)) → count_by p bs ≤ count_by p (a ∷ bs)
  counted_more p a bs = omega (arith, sum_by-cons (λ x. cond (p x) 1 0) a bs)

  -- neighbours that tie are a repeat
  pub repeat_here : (a b : AssetQuantity Q) (bs : List (AssetQuantity Q)) → asset_cmp a b ≡ Equal → HasRepeats (a ∷ b ∷ bs)
  repeat_here a b bs h =
      let p : AssetQuantity Q → Bool = is_of a.policy a.name in
      let one = counted_one p a (b ∷ bs) (is_itself a) in
      let two = counted_one p b bs (same_asset a b h) in
      (a.policy, a.name, omega arith)

  pub repeat_there : (a : AssetQuantity Q) (bs : List (AssetQuantity Q)) → HasRepeats bs → HasRepeats (a ∷ bs)
  repeat_there a bs h =
      let more = counted_more (is_of h.0 h.1) a bs in
      (h.0, h.1, omega (arith, h.2))

  -- in whatever order they stand
  pub repeats_moved : (xs ys : List (AssetQuantity Q)) → IsPermutation xs ys → HasRepeats xs → HasRepeats ys
  repeats_moved xs ys moved h =
      (h.0, h.1, subst (λ (n : ℕ). 1 < n) (sym (sum_by-IsPermutation (λ x. cond (is_of h.0 h.1 x) 1 0) xs ys moved)) h.2)

  -- ---- in a walk along neighbours

  -- the last one and what is left decide for all
  pub record DecidesFrom (all : List (AssetQuantity Q)) (last : AssetQuantity Q) (left : List (AssetQuantity Q)) : Type 0 where
    pub differ : NeighboursDiffer last left → AllNeighboursDiffer all
    pub repeats : HasRepeats (last ∷ left) → HasRepeats all

  pub neighbours_more : (all : List (AssetQuantity Q)) (last next : AssetQuantity Q) (left : List (AssetQuantity Q)) → asset_cmp last next ≢ Equal → DecidesFrom all last (next ∷ left) → DecidesFrom all next left
  neighbours_more all last next left apart d =
      record { differ = λ h. d.differ (apart, h); repeats = λ h. d.repeats (repeat_there last (next ∷ left) h) }
