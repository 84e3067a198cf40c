-- Of the same assets there is one value and one mint that has a text.
use Rattle.std.proofs.Common.{◌≡◌, ◌≢◌, ℕ, ℤ, suc, ◌<◌, List, [], ◌∷◌, ◌++◌, map, length, get_or, refl, sym, ap, subst, ◌∙◌, arith, inl, inr, zero}
use Rattle.std.specs.Prelude.{◌⊎◌}
use Rattle.std.specs.List.{AllByRecursion, Contains}
use Rattle.std.specs.List.Sorted.{IsPermutation}
use Rattle.std.specs.Ordering.{ordering_reverse}
use Rattle.std.specs.declared.cmp.Ordering.TheVariants.{Less, Equal, Greater}
use Rattle.std.proofs.lemmas.Cmp.{tied_itself}
use Rattle.std.proofs.lemmas.List.Sorted.{Contains-permutation, IsPermutation-sym, IsPermutation-trans}
use Rattle.model.specs.Cbor.{Item, Unsigned, HasText, pairs_of, PairsHaveRisingKeys}
use Rattle.model.specs.Value.{Token, Policy, Value, Mint, IsPolicy, IsValue, IsMint, IsMintedQuantity, item_of_number, item_of_value, item_of_assets, entry_of_policy}
use Rattle.value.specs.Parts.{AssetQuantity, assets_under, flat_assets, IsValueOf, IsMintOf}
use Rattle.value.specs.Order.{asset_cmp}
use Rattle.value.specs.Differing.{PoliciesDiffer}
use Rattle.value.specs.Grouped.{asset_under}
use Rattle.value.proofs.Rising.{asset_cmp_total, Rise, below_all}
use Rattle.value.proofs.RisingKeys.{policies_differ}
use Rattle.value.proofs.Refusing.{flat_rises}
use Rattle.value.proofs.Making.{value_rises}

-- ---- members

abbrev pub IsIn : {X : Type 0} → X → List X → Type 0
IsIn z [] = ⊥
IsIn z (x ∷ xs) = (z ≡ x) ⊎ IsIn z xs

is_in : {X : Type 0} (xs : List X) (z : X) (k : ℕ) → k < length xs → get_or xs k z ≡ z → IsIn z xs
is_in [] z k lt is = absurd (omega arith)
is_in (x ∷ xs) z zero lt is = inl (sym is)
is_in (x ∷ xs) z (suc k) lt is = inr (is_in xs z k (omega arith) is)

contained : {X : Type 0} (xs : List X) (z : X) → IsIn z xs → Contains xs z
contained [] z h = absurd h
contained (x ∷ xs) z h =
    elim h [
      | inl same ↦ (0, omega arith, sym same)
      | inr rest ↦ let c = contained xs z rest in (suc c.0, omega (arith, c.1), c.2)
    ]

pub moved_in : {X : Type 0} (xs ys : List X) → IsPermutation xs ys → (z : X) → IsIn z xs → IsIn z ys
moved_in xs ys same z h = let c = Contains-permutation xs ys z same (contained xs z h) in is_in ys z c.0 c.1 c.2

pub from_all : {X : Type 0} (P : X → Type 0) (xs : List X) (z : X) → AllByRecursion P xs → IsIn z xs → P z
from_all P [] z all h = absurd h
from_all P (x ∷ xs) z all h = elim h [ inl same ↦ subst P (sym same) all.0 | inr rest ↦ from_all P xs z all.1 rest ]

module _ {Q : Type 0} where
  -- ---- lists that rise and have the same members

  not_below_itself : (a : AssetQuantity Q) → asset_cmp a a ≡ Less → ⊥
  not_below_itself a h = let tie : Equal ≡ Less = sym (tied_itself asset_cmp_total a) ∙ h in absurd cc

  not_both_below : (a b : AssetQuantity Q) → asset_cmp a b ≡ Less → asset_cmp b a ≡ Less → ⊥
  not_both_below a b h g = let turned : Less ≡ Greater = sym h ∙ asset_cmp_total.antisymm a b ∙ ap ordering_reverse g in absurd cc

  same_heads : (x y : AssetQuantity Q) (xs ys : List (AssetQuantity Q)) → Rise (x ∷ xs) → Rise (y ∷ ys) → IsIn x (y ∷ ys) → IsIn y (x ∷ xs) → x ≡ y
  same_heads x y xs ys up also there here =
      elim there [
        | inl same ↦ same
        | inr later ↦ elim here [
          | inl same ↦ sym same
          | inr after ↦ absurd (not_both_below x y (from_all (λ b. asset_cmp x b ≡ Less) xs y (below_all x xs up.0 up.1) after) (from_all (λ b. asset_cmp y b ≡ Less) ys x (below_all y ys also.0 also.1) later))
        ]
      ]

  -- a member after the first is a member after the same first
  in_rest : (x y : AssetQuantity Q) (xs ys : List (AssetQuantity Q)) → x ≡ y → Rise (x ∷ xs) → (z : AssetQuantity Q) → IsIn z xs → IsIn z (y ∷ ys) → IsIn z ys
  in_rest x y xs ys heads up z here there =
      elim there [
        | inl same ↦ absurd (not_below_itself x (subst (λ b. asset_cmp x b ≡ Less) (same ∙ sym heads) (from_all (λ b. asset_cmp x b ≡ Less) xs z (below_all x xs up.0 up.1) here)))
        | inr rest ↦ rest
      ]

  same_list : (xs ys : List (AssetQuantity Q)) → Rise xs → Rise ys → ((z : AssetQuantity Q) → IsIn z xs → IsIn z ys) → ((z : AssetQuantity Q) → IsIn z ys → IsIn z xs) → xs ≡ ys
  same_list [] [] up also to from = refl
  same_list [] (y ∷ ys) up also to from = absurd (from y (inl refl))
  same_list (x ∷ xs) [] up also to from = absurd (to x (inl refl))
  same_list (x ∷ xs) (y ∷ ys) up also to from =
      let heads = same_heads x y xs ys up also (to x (inl refl)) (from y (inl refl)) in
      let rests = same_list xs ys up.1 also.1 (λ z h. in_rest x y xs ys heads up z h (to z (inr h))) (λ z h. in_rest y x ys xs (sym heads) also z h (from z (inr h))) in
      λ i. heads i ∷ rests i

  one_order : (xs ys : List (AssetQuantity Q)) → Rise xs → Rise ys → IsPermutation xs ys → xs ≡ ys
  one_order xs ys up also same = same_list xs ys up also (moved_in xs ys same) (moved_in ys xs (IsPermutation-sym xs ys same))

  -- ---- policies with the same assets

  -- the first of them is of another policy
  abbrev IsOfOthers : List ℕ → List (AssetQuantity Q) → Type 0
  IsOfOthers id [] = Unit {0}
  IsOfOthers id (b ∷ bs) = b.policy ≢ id

  starts_apart : (id : List ℕ) (as' : List (AssetQuantity Q)) (c : AssetQuantity Q) (cs : List (AssetQuantity Q)) → IsOfOthers id as' → c.policy ≡ id → as' ≡ c ∷ cs → ⊥
  starts_apart id [] c cs others is e = absurd cc
  starts_apart id (b ∷ bs) c cs others is e = let same : b ≡ c = cc in others (ap (λ x. x.policy) same ∙ is)

  -- a policy's tokens end where those of others begin
  cut : (id : List ℕ) (ts us : List (Token Q)) (as' bs : List (AssetQuantity Q)) → IsOfOthers id as' → IsOfOthers id bs → assets_under id ts ++ as' ≡ assets_under id us ++ bs → (ts ≡ us) × (as' ≡ bs)
  cut id [] [] as' bs a b e = (refl, e)
  cut id [] (u ∷ us) as' bs a b e = absurd (starts_apart id as' (asset_under id u) (assets_under id us ++ bs) a refl e)
  cut id (t ∷ ts) [] as' bs a b e = absurd (starts_apart id bs (asset_under id t) (assets_under id ts ++ as') b refl (sym e))
  cut id (t ∷ ts) (u ∷ us) as' bs a b e =
      let first : asset_under id t ≡ asset_under id u = cc in
      let rests : assets_under id ts ++ as' ≡ assets_under id us ++ bs = cc in
      let r = cut id ts us as' bs a b rests in
      let tokens : t ≡ u = λ i. record { name = (first i).name; quantity = (first i).quantity } in
      (λ i. tokens i ∷ r.0 i, r.1)

  under_others : (id other : List ℕ) (us : List (Token Q)) (bs : List (AssetQuantity Q)) → us ≢ [] → other ≢ id → IsOfOthers id (assets_under other us ++ bs)
  under_others id other [] bs some apart = absurd (some refl)
  under_others id other (u ∷ us) bs some apart = apart

  under_some : (id : List ℕ) (ts : List (Token Q)) (bs : List (AssetQuantity Q)) → ts ≢ [] → [] ≡ assets_under id ts ++ bs → ⊥
  under_some id [] bs some e = some refl
  under_some id (t ∷ ts) bs some e = absurd cc

  first_ids : (id other : List ℕ) (ts us : List (Token Q)) (as' bs : List (AssetQuantity Q)) → ts ≢ [] → us ≢ [] → assets_under id ts ++ as' ≡ assets_under other us ++ bs → id ≡ other
  first_ids id other [] us as' bs some more e = absurd (some refl)
  first_ids id other (t ∷ ts) [] as' bs some more e = absurd (more refl)
  first_ids id other (t ∷ ts) (u ∷ us) as' bs some more e = let first : asset_under id t ≡ asset_under other u = cc in ap (λ x. x.policy) first

module _ {Q : Type 0} (IsQuantity : Q → Type 0) (item_of : Q → Item) where
  flat_others : (id : List ℕ) (ps : List (Policy Q)) → AllByRecursion (λ q. q.id ≢ id) ps → AllByRecursion (IsPolicy IsQuantity) ps → IsOfOthers id (flat_assets ps)
  flat_others id [] apart all = tt
  flat_others id (q ∷ qs) apart all = under_others id q.id q.tokens (flat_assets qs) all.0.not_empty apart.0

  same_policies : (ps qs : List (Policy Q)) → PoliciesDiffer ps → PoliciesDiffer qs → AllByRecursion (IsPolicy IsQuantity) ps → AllByRecursion (IsPolicy IsQuantity) qs → flat_assets ps ≡ flat_assets qs → ps ≡ qs
  same_policies [] [] p q all also e = refl
  same_policies [] (y ∷ ys) p q all also e = absurd (under_some y.id y.tokens (flat_assets ys) also.0.not_empty e)
  same_policies (x ∷ xs) [] p q all also e = absurd (under_some x.id x.tokens (flat_assets xs) all.0.not_empty (sym e))
  same_policies (x ∷ xs) (y ∷ ys) p q all also e =
      let ids = first_ids x.id y.id x.tokens y.tokens (flat_assets xs) (flat_assets ys) all.0.not_empty also.0.not_empty e in
      let others = subst (λ id. IsOfOthers id (flat_assets ys)) (sym ids) (flat_others y.id ys q.1 also.1) in
      let parts = cut x.id x.tokens y.tokens (flat_assets xs) (flat_assets ys) (flat_others x.id xs p.1 all.1) others (e ∙ ap (λ id. assets_under id y.tokens ++ flat_assets ys) (sym ids)) in
      let rests = same_policies xs ys p.2 q.2 all.1 also.1 parts.1 in
      λ i. record { id = ids i; tokens = parts.0 i } ∷ rests i

  -- policies with texts and the same assets are the same
  one_policies : (ps qs : List (Policy Q)) → AllByRecursion (IsPolicy IsQuantity) ps → PairsHaveRisingKeys (pairs_of (map (entry_of_policy item_of) ps)) → AllByRecursion (IsPolicy IsQuantity) qs
      → PairsHaveRisingKeys (pairs_of (map (entry_of_policy item_of) qs)) → (assets : List (AssetQuantity Q)) → IsPermutation assets (flat_assets ps) → IsPermutation assets (flat_assets qs) → ps ≡ qs
  one_policies ps qs all up also more assets same too =
      same_policies ps qs (policies_differ item_of ps up) (policies_differ item_of qs more) all also
      (one_order (flat_assets ps) (flat_assets qs) (flat_rises IsQuantity item_of ps all up) (flat_rises IsQuantity item_of qs also more) (IsPermutation-trans (flat_assets ps) assets (flat_assets qs) (IsPermutation-sym assets (flat_assets ps) same) too))

pub one_value_made : (a b : Value) (coin : ℕ) (assets : List (AssetQuantity ℕ)) → IsValue a → HasText (item_of_value a) → IsValue b → HasText (item_of_value b) → IsValueOf a coin assets → IsValueOf b coin assets → a ≡ b
one_value_made a b coin assets is text also more same too =
    let coins = same.same_coin ∙ sym too.same_coin in
    let policies = one_policies (λ q. q ≢ 0) Unsigned a.assets b.assets is (value_rises a.coin a.assets text) also (value_rises b.coin b.assets more) assets same.same_assets too.same_assets in
    λ i. record { coin = coins i; assets = policies i }

pub one_mint_made : (a b : Mint) (assets : List (AssetQuantity ℤ)) → IsMint a → HasText (item_of_assets item_of_number a) → IsMint b → HasText (item_of_assets item_of_number b) → IsMintOf a assets → IsMintOf b assets → a ≡ b
one_mint_made a b assets is text also more same too = one_policies IsMintedQuantity item_of_number a b is text.rising also more.rising assets same too
