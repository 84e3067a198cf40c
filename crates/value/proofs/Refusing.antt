-- What the faults of assets rule out: no policies with a text have just those assets.
use Rattle.std.proofs.Common.{◌≡◌, ◌≢◌, ℕ, ℤ, pos, ◌+◌, ◌<◌, ◌≤◌, Bool, true, false, ◌&&◌, cond, List, [], ◌∷◌, ◌++◌, map, length, refl, sym, ap, ◌∙◌, arith, inl, inr}
use Rattle.std.specs.Prelude.{◌⊎◌, bytes_eq}
use Rattle.std.specs.List.{AllByRecursion, count_by}
use Rattle.std.specs.List.Sorted.{IsPermutation}
use Rattle.std.specs.Ordering.{nat_cmp, ordering_then}
use Rattle.std.specs.declared.cmp.Ordering.{Ordering}
use Rattle.std.specs.declared.cmp.Ordering.TheVariants.{Less, Equal}
use Rattle.std.specs.Cmp.Lexicographic.{slice_cmp}
use Rattle.std.proofs.lemmas.Cmp.{nat_list_cmp_total, tied_itself}
use Rattle.std.proofs.lemmas.List.Sums.{sum_by-cons}
use Rattle.byte_keys.proofs.ForCallers.{bytes_from}
use Rattle.model.specs.Limits.{name_size_limit}
use Rattle.model.specs.Cbor.{Item, Bytes, pairs_of, IsBeforeFirst, PairsHaveRisingKeys}
use Rattle.model.specs.Value.{Token, Policy, IsPolicy, entry_of_token, entry_of_policy}
use Rattle.value.specs.declared.asset_fault.AssetFault.{AssetFault}
use Rattle.value.specs.declared.asset_fault.AssetFault.TheVariants as faults
use Rattle.value.specs.Parts.{AssetQuantity, assets_under, flat_assets, is_of, HasRepeats, IsAssetFault, IfAtFault}
use Rattle.value.specs.Order.{name_cmp, asset_cmp}
use Rattle.value.proofs.TextOrder.{text_order, same_length_order}
use Rattle.value.proofs.Rising.{name_cmp_total, IsBelowFirst, Rise, below_all}
use Rattle.value.proofs.Saying.{under_order}
use Rattle.value.proofs.Walks.{none_bad, any_moved}
use Rattle.value.proofs.Repeats.{repeats_moved}

both_from : (a b : Bool) → a && b ≡ true → (a ≡ true) × (b ≡ true)
both_from true b h = (refl, h)
both_from false b h = absurd cc

either_way : (b : Bool) → (b ≡ true) ⊎ (b ≡ false)
either_way true = inl refl
either_way false = inr refl

one_at_most : (b : Bool) (all rest : ℕ) → all ≡ cond b 1 0 + rest → (b ≡ true → rest ≡ 0) → rest ≤ 1 → all ≤ 1
one_at_most true all rest sum none few = omega (arith, none refl)
one_at_most false all rest sum none few = omega arith

module _ {Q : Type 0} where
  -- ---- assets that rise have no repeats

  -- assets of one policy and name tie
  one_asset : (policy name : List ℕ) (a b : AssetQuantity Q) → is_of policy name a ≡ true → is_of policy name b ≡ true → asset_cmp a b ≡ Equal
  one_asset policy name a b p q =
      let here = both_from (bytes_eq policy a.policy) (bytes_eq name a.name) p in
      let there = both_from (bytes_eq policy b.policy) (bytes_eq name b.name) q in
      let policies : a.policy ≡ b.policy = sym (bytes_from policy a.policy here.0) ∙ bytes_from policy b.policy there.0 in
      let names : a.name ≡ b.name = sym (bytes_from name a.name here.1) ∙ bytes_from name b.name there.1 in
      ap (λ (o : Ordering). ordering_then o (name_cmp a.name b.name)) (ap (slice_cmp nat_cmp a.policy) (sym policies) ∙ tied_itself nat_list_cmp_total a.policy)
      ∙ ap (name_cmp a.name) (sym names) ∙ tied_itself name_cmp_total a.name

  counted_none : (policy name : List ℕ) (a : AssetQuantity Q) (bs : List (AssetQuantity Q)) → is_of policy name a ≡ true → AllByRecursion (λ b. asset_cmp a b ≡ Less) bs → count_by (is_of policy name) bs ≡ 0
  counted_none policy name a [] p below = refl
  counted_none policy name a (b ∷ bs) p below =
      elim (either_way (is_of policy name b)) [
        | inl q ↦ let tie : Equal ≡ Less = sym (one_asset policy name a b p q) ∙ below.0 in absurd cc
        | inr q ↦ sum_by-cons (λ x. cond (is_of policy name x) 1 0) b bs ∙ ap (λ (t : Bool). cond t 1 0 + count_by (is_of policy name) bs) q ∙ omega (arith, counted_none policy name a bs p below.1)
      ]

  counted_once : (policy name : List ℕ) (as' : List (AssetQuantity Q)) → Rise as' → count_by (is_of policy name) as' ≤ 1
  counted_once policy name [] rise = omega arith
  counted_once policy name (a ∷ bs) rise =
      one_at_most (is_of policy name a) (count_by (is_of policy name) (a ∷ bs)) (count_by (is_of policy name) bs) (sum_by-cons (λ x. cond (is_of policy name x) 1 0) a bs)
      (λ p. counted_none policy name a bs p (below_all a bs rise.0 rise.1)) (counted_once policy name bs rise.1)

  pub no_repeats : (as' : List (AssetQuantity Q)) → Rise as' → HasRepeats as' → ⊥
  no_repeats as' rise h = absurd (omega (arith, counted_once h.0 h.1 as' rise, h.2))

  -- ---- what has a text rises

  rise_join : (xs ys : List (AssetQuantity Q)) → Rise xs → Rise ys → AllByRecursion (λ x. IsBelowFirst x ys) xs → Rise (xs ++ ys)
  rise_join [] ys up more below = more
  rise_join (x ∷ []) ys up more below = (below.0, more)
  rise_join (x ∷ z ∷ zs) ys up more below = (up.0, rise_join (z ∷ zs) ys up.1 more below.1)

module _ {Q : Type 0} (IsQuantity : Q → Type 0) (item_of : Q → Item) where
  names_rise : (id : List ℕ) (ts : List (Token Q)) → AllByRecursion (λ t. (length t.name ≤ name_size_limit) × IsQuantity t.quantity) ts → PairsHaveRisingKeys (pairs_of (map (entry_of_token item_of) ts)) → Rise (assets_under id ts)
  names_rise id [] short rising = tt
  names_rise id (t ∷ []) short rising = (tt, tt)
  names_rise id (t ∷ u ∷ us) short rising =
      let first = short.0.0 in
      let second = short.1.0.0 in
      (under_order id t u ∙ sym (text_order t.name u.name (omega (arith, first)) (omega (arith, second))) ∙ rising.2, names_rise id (u ∷ us) short.1 rising.3)

  -- each of a policy's assets stands before the next policy's
  all_below : (id : List ℕ) (ts : List (Token Q)) (other : List ℕ) (us : List (Token Q)) (bs : List (AssetQuantity Q)) → us ≢ [] → slice_cmp nat_cmp id other ≡ Less → AllByRecursion (λ x. IsBelowFirst x (assets_under other us ++ bs)) (assets_under id ts)
  all_below id ts other [] bs some below = absurd (some refl)
  all_below id [] other (u ∷ us) bs some below = tt
  all_below id (t ∷ ts) other (u ∷ us) bs some below =
      (ap (λ (o : Ordering). ordering_then o (name_cmp t.name u.name)) below, all_below id ts other (u ∷ us) bs some below)

  below_none : (id : List ℕ) (ts : List (Token Q)) → AllByRecursion (λ x. IsBelowFirst x []) (assets_under id ts)
  below_none id [] = tt
  below_none id (t ∷ ts) = (tt, below_none id ts)

  below_policies : (p : Policy Q) (ps : List (Policy Q)) → IsPolicy IsQuantity p → AllByRecursion (IsPolicy IsQuantity) ps → IsBeforeFirst (Bytes p.id) (pairs_of (map (entry_of_policy item_of) ps))
      → AllByRecursion (λ x. IsBelowFirst x (flat_assets ps)) (assets_under p.id p.tokens)
  below_policies p [] is all before = below_none p.id p.tokens
  below_policies p (q ∷ qs) is all before =
      let first = is.id in
      let second = all.0.id in
      all_below p.id p.tokens q.id q.tokens (flat_assets qs) all.0.not_empty (sym (same_length_order p.id q.id (first ∙ sym second)) ∙ sym (text_order p.id q.id (omega (arith, first)) (omega (arith, second))) ∙ before)

  -- the assets of policies whose map has rising keys rise
  pub flat_rises : (ps : List (Policy Q)) → AllByRecursion (IsPolicy IsQuantity) ps → PairsHaveRisingKeys (pairs_of (map (entry_of_policy item_of) ps)) → Rise (flat_assets ps)
  flat_rises [] all rising = tt
  flat_rises (p ∷ ps) all rising =
      rise_join (assets_under p.id p.tokens) (flat_assets ps) (names_rise p.id p.tokens all.0.tokens rising.1) (flat_rises ps all.1 rising.3) (below_policies p ps all.0 all.1 rising.2)

  -- ---- and has short names and quantities

  abbrev IsPart : AssetQuantity Q → Type 0
  IsPart a = (length a.name ≤ name_size_limit) × IsQuantity a.quantity

  under_parts : (id : List ℕ) (ts : List (Token Q)) (bs : List (AssetQuantity Q)) → AllByRecursion (λ t. (length t.name ≤ name_size_limit) × IsQuantity t.quantity) ts → AllByRecursion IsPart bs → AllByRecursion IsPart (assets_under id ts ++ bs)
  under_parts id [] bs here more = more
  under_parts id (t ∷ ts) bs here more = (here.0, under_parts id ts bs here.1 more)

  flat_parts : (ps : List (Policy Q)) → AllByRecursion (IsPolicy IsQuantity) ps → AllByRecursion IsPart (flat_assets ps)
  flat_parts [] all = tt
  flat_parts (p ∷ ps) all = under_parts p.id p.tokens (flat_assets ps) all.0.tokens (flat_parts ps all.1)

  -- policies with a text don't have assets at fault
  pub none_at_fault : (whole : Q → ℤ) → ((q : Q) → IsQuantity q → whole q ≢ pos 0) → (fault : AssetFault) (assets : List (AssetQuantity Q)) (ps : List (Policy Q)) → IsAssetFault whole assets fault
      → AllByRecursion (IsPolicy IsQuantity) ps → PairsHaveRisingKeys (pairs_of (map (entry_of_policy item_of) ps)) → IsPermutation assets (flat_assets ps) → IfAtFault fault ⊥
  none_at_fault whole counts faults.NameTooLong assets ps first all rising same =
      none_bad IsPart (λ a. name_size_limit < length a.name) (flat_assets ps) (λ a part long. let short = part.0 in absurd (omega (arith, short, long))) (flat_parts ps all) (any_moved (λ a. name_size_limit < length a.name) assets (flat_assets ps) same first)
  none_at_fault whole counts faults.ZeroQuantity assets ps first all rising same =
      none_bad IsPart (λ a. whole a.quantity ≡ pos 0) (flat_assets ps) (λ a part zero. counts a.quantity part.1 zero) (flat_parts ps all) (any_moved (λ a. whole a.quantity ≡ pos 0) assets (flat_assets ps) same first.1)
  none_at_fault whole counts faults.Repeated assets ps first all rising same =
      no_repeats (flat_assets ps) (flat_rises ps all rising) (repeats_moved assets (flat_assets ps) same first.2)
  none_at_fault whole counts faults.OutOfMemory assets ps first all rising same = tt
