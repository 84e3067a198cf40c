-- Assets that rise, put under their policies, have a text.
use Rattle.std.proofs.Common.{◌≡◌, ◌≢◌, ℕ, ◌^◌, ◌<◌, ◌≤◌, List, [], ◌∷◌, ◌++◌, map, length, refl, sym, ap, ◌∙◌, arith, length-append}
use Rattle.std.specs.List.{AllByRecursion}
use Rattle.std.specs.Ordering.{nat_cmp, ordering_then}
use Rattle.std.specs.declared.cmp.Ordering.{Ordering}
use Rattle.std.specs.declared.cmp.Ordering.TheVariants.{Less, Equal, Greater}
use Rattle.std.specs.Cmp.Lexicographic.{slice_cmp}
use Rattle.std.proofs.lemmas.Cmp.{nat_list_cmp_total, tied_itself}
use Rattle.std.proofs.lemmas.List.{length-map}
use Rattle.std.proofs.lemmas.Map.Lookups.{exact_bytes}
use Rattle.std.specs.Prelude.{ℤ}
use Rattle.model.specs.Limits.{hash_size, name_size_limit}
use Rattle.model.specs.Cbor.{Item, Bytes, Pairs, text_of, pairs_of, pairs_count, pairs_nesting, PairsAreInRange, PairsHaveRisingKeys, IsBeforeFirst}
use Rattle.model.specs.Value.{Token, Policy, entry_of_token, entry_of_policy, IsPolicy}
use Rattle.value.specs.Parts.{AssetQuantity, assets_under, flat_assets}
use Rattle.value.specs.Order.{name_cmp, asset_cmp}
use Rattle.value.specs.Checked.{IsNamed, IsCounted}
use Rattle.value.specs.Grouped.{asset_under, IsApartFromFirst, IsGrouped}
use Rattle.value.specs.Said.{IsSized, AreSaid}
use Rattle.value.proofs.TextOrder.{text_order, same_length_order}
use Rattle.value.proofs.Rising.{Rise}

-- ---- lists in two parts

pub all_front : {X : Type 0} (P : X → Type 0) (xs ys : List X) → AllByRecursion P (xs ++ ys) → AllByRecursion P xs
all_front P [] ys h = tt
all_front P (x ∷ xs) ys h = (h.0, all_front P xs ys h.1)

pub all_back : {X : Type 0} (P : X → Type 0) (xs ys : List X) → AllByRecursion P (xs ++ ys) → AllByRecursion P ys
all_back P [] ys h = h
all_back P (x ∷ xs) ys h = all_back P xs ys h.1

pub count_is : (es : List (Item × Item)) → pairs_count (pairs_of es) ≡ length es
count_is [] = refl
count_is (e ∷ es) = omega (arith, count_is es)

-- where the first does not tie it decides
first_decides : (o n : Ordering) → ordering_then o n ≡ Less → o ≢ Equal → o ≡ Less
first_decides Less n h apart = refl
first_decides Equal n h apart = absurd (apart refl)
first_decides Greater n h apart = absurd cc

module _ {Q : Type 0} where
  rise_front : (xs ys : List (AssetQuantity Q)) → Rise (xs ++ ys) → Rise xs
  rise_front [] ys h = tt
  rise_front (x ∷ []) ys h = (tt, tt)
  rise_front (x ∷ z ∷ zs) ys h = (h.0, rise_front (z ∷ zs) ys h.1)

  rise_back : (xs ys : List (AssetQuantity Q)) → Rise (xs ++ ys) → Rise ys
  rise_back [] ys h = h
  rise_back (x ∷ xs) ys h = rise_back xs ys h.1

  -- assets of one policy stand by their names
  pub under_order : (id : List ℕ) (t u : Token Q) → asset_cmp (asset_under id t) (asset_under id u) ≡ name_cmp t.name u.name
  under_order id t u = ap (λ (o : Ordering). ordering_then o (name_cmp t.name u.name)) (tied_itself nat_list_cmp_total id)

  -- the policy of what stands last stands before the next one
  policy_below : (id : List ℕ) (ts : List (Token Q)) (b : AssetQuantity Q) (bs : List (AssetQuantity Q)) → ts ≢ [] → Rise (assets_under id ts ++ b ∷ bs) → id ≢ b.policy → slice_cmp nat_cmp id b.policy ≡ Less
  policy_below id [] b bs some rise apart = absurd (some refl)
  policy_below id (t ∷ []) b bs some rise apart =
      first_decides (slice_cmp nat_cmp id b.policy) (name_cmp t.name b.name) rise.0 (λ same. apart (exact_bytes id b.policy same))
  policy_below id (t ∷ u ∷ us) b bs some rise apart = policy_below id (u ∷ us) b bs (λ none. absurd cc) rise.1 apart

module _ {Q : Type 0} (whole : Q → ℤ) (IsQuantity : Q → Type 0) (item_of : Q → Item) where
  -- what was checked of an asset
  pub record IsReady (a : AssetQuantity Q) : Type 0 where
    pub sized : IsSized a
    pub named : IsNamed a
    pub counted : IsCounted whole IsQuantity item_of a

  abbrev token_pairs : List (Token Q) → Pairs
  token_pairs ts = pairs_of (map (entry_of_token item_of) ts)

  abbrev policy_pairs : List (Policy Q) → Pairs
  policy_pairs ps = pairs_of (map (entry_of_policy item_of) ps)

  -- ---- the tokens of one policy

  record AreTokens (ts : List (Token Q)) : Type 0 where
    tokens : AllByRecursion (λ t. (length t.name ≤ name_size_limit) × IsQuantity t.quantity) ts
    in_range : PairsAreInRange (token_pairs ts)
    rising : PairsHaveRisingKeys (token_pairs ts)
    nests : pairs_nesting (token_pairs ts) ≤ 1

  before_name : (id : List ℕ) (t : Token Q) (ts : List (Token Q)) → AllByRecursion IsReady (assets_under id (t ∷ ts)) → Rise (assets_under id (t ∷ ts)) → IsBeforeFirst (Bytes t.name) (token_pairs ts)
  before_name id t [] ready rise = tt
  before_name id t (u ∷ us) ready rise =
      let first = ready.0.named.short in
      let second = ready.1.0.named.short in
      text_order t.name u.name (omega (arith, first)) (omega (arith, second)) ∙ sym (under_order id t u) ∙ rise.0

  are_tokens : (id : List ℕ) (ts : List (Token Q)) → AllByRecursion IsReady (assets_under id ts) → Rise (assets_under id ts) → AreTokens ts
  are_tokens id [] ready rise = record { tokens = tt; in_range = tt; rising = tt; nests = omega arith }
  are_tokens id (t ∷ ts) ready rise =
      let rest = are_tokens id ts ready.1 rise.1 in
      let first = ready.0 in
      let item = first.counted.item in
      let short = first.named.short in
      let alone = item.alone in
      let nests = rest.nests in
      record {
        tokens = ((short, first.counted.quantity), rest.tokens);
        in_range = ((omega (arith, short), first.named.bytes), item.in_range, rest.in_range);
        rising = (tt, item.rising, before_name id t ts ready rise, rest.rising);
        nests = omega (arith, alone, nests);
      }

  -- ---- the policies

  record ArePolicies (ps : List (Policy Q)) : Type 0 where
    policies : AllByRecursion (IsPolicy IsQuantity) ps
    in_range : PairsAreInRange (policy_pairs ps)
    rising : PairsHaveRisingKeys (policy_pairs ps)
    nests : pairs_nesting (policy_pairs ps) ≤ 2
    few : length ps ≤ length (flat_assets ps)

  before_other : (id : List ℕ) (ts : List (Token Q)) (other : List ℕ) (us : List (Token Q)) (bs : List (AssetQuantity Q)) → length id ≡ hash_size → ts ≢ [] → us ≢ [] → id ≢ other
      → AllByRecursion IsReady (assets_under other us ++ bs) → Rise (assets_under id ts ++ (assets_under other us ++ bs)) → slice_cmp nat_cmp (text_of (Bytes id)) (text_of (Bytes other)) ≡ Less
  before_other id ts other [] bs long some more apart ready rise = absurd (more refl)
  before_other id ts other (u ∷ us) bs long some more apart ready rise =
      let also = ready.0.sized.long in
      text_order id other (omega (arith, long)) (omega (arith, also)) ∙ same_length_order id other (long ∙ sym also)
      ∙ policy_below id ts (asset_under other u) (assets_under other us ++ bs) some rise apart

  before_policy : (p : Policy Q) (ps : List (Policy Q)) → length p.id ≡ hash_size → p.tokens ≢ [] → IsApartFromFirst p ps → IsGrouped ps → AllByRecursion IsReady (flat_assets ps)
      → Rise (assets_under p.id p.tokens ++ flat_assets ps) → IsBeforeFirst (Bytes p.id) (policy_pairs ps)
  before_policy p [] long some apart grouped ready rise = tt
  before_policy p (q ∷ qs) long some apart grouped ready rise =
      before_other p.id p.tokens q.id q.tokens (flat_assets qs) long some grouped.0 apart ready rise

  sized_id : (id : List ℕ) (ts : List (Token Q)) → ts ≢ [] → AllByRecursion IsReady (assets_under id ts) → (length id ≡ hash_size) × AllByRecursion (λ b. b < 256) id
  sized_id id [] some ready = absurd (some refl)
  sized_id id (t ∷ ts) some ready = (ready.0.sized.long, ready.0.sized.bytes)

  under_long : (id : List ℕ) (ts : List (Token Q)) → length (assets_under id ts) ≡ length ts
  under_long id [] = refl
  under_long id (t ∷ ts) = omega (arith, under_long id ts)

  some_long : (ts : List (Token Q)) → ts ≢ [] → 0 < length ts
  some_long [] some = absurd (some refl)
  some_long (t ∷ ts) some = omega arith

  few_pairs : {X : Type 0} (f : X → Item × Item) (xs : List X) → length xs < 2 ^ 64 → pairs_count (pairs_of (map f xs)) < 2 ^ 64
  few_pairs f xs few = omega (arith, count_is (map f xs), length-map xs f)

  are_policies : (ps : List (Policy Q)) → IsGrouped ps → AllByRecursion IsReady (flat_assets ps) → Rise (flat_assets ps) → length (flat_assets ps) < 2 ^ 64 → ArePolicies ps
  are_policies [] grouped ready rise fits = record { policies = tt; in_range = tt; rising = tt; nests = omega arith; few = omega arith }
  are_policies (p ∷ ps) grouped ready rise fits =
      let front = assets_under p.id p.tokens in
      let back = flat_assets ps in
      let here = all_front IsReady front back ready in
      let id = sized_id p.id p.tokens grouped.0 here in
      let tokens = are_tokens p.id p.tokens here (rise_front front back rise) in
      let long = length-append front back in
      let under = under_long p.id p.tokens in
      let some = some_long p.tokens grouped.0 in
      let rest = are_policies ps grouped.2 (all_back IsReady front back ready) (rise_back front back rise) (omega arith) in
      let few = rest.few in
      let deep = tokens.nests in
      let deeper = rest.nests in
      let sized = id.0 in
      record {
        policies = (record { id = sized; not_empty = grouped.0; tokens = tokens.tokens }, rest.policies);
        in_range = ((omega (arith, sized), id.1), (few_pairs (entry_of_token item_of) p.tokens (omega arith), tokens.in_range), rest.in_range);
        rising = (tt, tokens.rising, before_policy p ps sized grouped.0 grouped.1 grouped.2 (all_back IsReady front back ready) rise, rest.rising);
        nests = omega (arith, deep, deeper);
        few = omega arith;
      }

  -- assets that were checked, and rise, have a text under their policies
  pub are_said : (ps : List (Policy Q)) → IsGrouped ps → AllByRecursion IsReady (flat_assets ps) → Rise (flat_assets ps) → length (flat_assets ps) < 2 ^ 64 → AreSaid IsQuantity item_of ps
  are_said ps grouped ready rise fits =
      let all = are_policies ps grouped ready rise fits in
      let few = all.few in
      let deep = all.nests in
      record { are_policies = all.policies; in_range = (few_pairs (entry_of_policy item_of) ps (omega arith), all.in_range); rising = all.rising; nests = omega (arith, deep) }
