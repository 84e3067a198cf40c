-- Assets that are gathered from what is listed of sums, and then put in the order of a value's text.
use Rattle.std.proofs.Common.{◌≡◌, ◌≢◌, ◌⊎◌, inl, inr, ℕ, zero, suc, ◌+◌, ◌<◌, ◌≤◌, ℤ, pos, Bool, true, false, ◌&&◌, cond, List, [], ◌∷◌, ◌++◌, map, length, get_or, drop, refl, sym, ap, subst, ◌∙◌, arith, append_assoc, append-nil, add-one, drop-cons}
use Rattle.std.specs.Prelude.{◌↔◌, bytes_eq}
use Rattle.std.specs.Global.{Vec}
use Rattle.std.specs.List.{AllByRecursion, Contains, count_by, flat_map}
use Rattle.std.specs.List.Sorted.{IsPermutation, IsSortedBy, IsStrictlySortedBy}
use Rattle.std.specs.Ordering.{nat_cmp, ordering_then, ordering_reverse, is_lt, is_eq}
use Rattle.std.specs.Cmp.{IsTotalOrder}
use Rattle.std.specs.Cmp.Lexicographic.{slice_cmp}
use Rattle.std.specs.declared.cmp.Ordering.{Ordering}
use Rattle.std.specs.declared.cmp.Ordering.TheVariants.{Less, Equal, Greater}
use Rattle.std.proofs.lemmas.Cmp.{nat_cmp_total, nat_list_cmp_total, on_total, then_total, tied_itself}
use Rattle.std.proofs.lemmas.List.{map-append, drop_all}
use Rattle.std.proofs.lemmas.List.Elements.{Contains-append_left, Contains-append_right, Contains-append_cases}
use Rattle.std.proofs.lemmas.List.Sorted.{Contains-permutation, IsPermutation-sym, IsPermutation-map, sum_by-IsPermutation}
use Rattle.std.proofs.lemmas.List.Sums.{sum_by-cons}
use Rattle.std.proofs.lemmas.Map.Lookups.{exact_bytes}
use Rattle.std.proofs.lemmas.Map.Text.{is_eq-slice_cmp}
use Rattle.ident.specs.Kinds.{ScriptHash}
use Rattle.model.specs.Value.{Asset, Named}
use Rattle.value.specs.Parts.{AssetQuantity, is_of}
use Rattle.value.specs.Order.{name_cmp, asset_cmp}
use Rattle.value.specs.Listed.{IsListed, IsInOrder, listed, named_sums}
use Rattle.value.specs.View.{asset_of}
use Rattle.value.specs.declared.amounts.Amounts.{Amounts}
use Rattle.value.specs.declared.asset_quantity.AssetQuantity.{AssetQuantity as CodeQuantity}
use Rattle.scenario.specs.Balances.{AreAssetsOf, asset_text, much_of}
use Rattle.scenario.specs.Gathered.{AreListed, assets_under}

abbrev Much : Type 0
Much = AssetQuantity ℤ

abbrev Held : Type 0
Held = CodeQuantity ℤ

abbrev Entry : Type 0
Entry = List ℕ × List (List ℕ × ℤ)

-- all that is listed, one policy after the other
abbrev pub flat : List Entry → List Much
flat [] = []
flat (e ∷ es) = assets_under e.0 e.1 ++ flat es

-- ---- what a loop gathers

abbrev pub named : List (Vec ℕ × ℤ) → List (List ℕ × ℤ)
named es = map (λ e. (e.0.items, e.1)) es

-- what was gathered, and the names that are still to come, are these
abbrev pub IsPartNamed : (policy : List ℕ) → (whole : List Much) → (now : List Held) → List (Vec ℕ × ℤ) → Type 0
IsPartNamed policy whole now rest = map asset_of now ++ assets_under policy (named rest) ≡ whole

pub one_named : (policy : List ℕ) (whole : List Much) (now more : List Held) (held : Held) (left rest : List (Vec ℕ × ℤ)) (name : Vec ℕ) (sum : ℤ) → left ≡ (name, sum) ∷ rest → more ≡ now ++ held ∷ [] → asset_of held ≡ much_of policy name.items sum
    → IsPartNamed policy whole now left → IsPartNamed policy whole more rest
one_named policy whole now more held left rest name sum is put same part =
    let behind = assets_under policy (named rest) in
    ap (λ (hs : List Held). map asset_of hs ++ behind) put ∙ ap (λ (xs : List Much). xs ++ behind) (map-append asset_of now (held ∷ [])) ∙ append_assoc (map asset_of now) (asset_of held ∷ []) behind
    ∙ ap (λ (x : Much). map asset_of now ++ x ∷ behind) same ∙ ap (λ (es : List (Vec ℕ × ℤ)). map asset_of now ++ assets_under policy (named es)) (sym is) ∙ part

pub all_named : (policy : List ℕ) (whole : List Much) (now : List Held) (rest : List (Vec ℕ × ℤ)) → rest ≡ [] → IsPartNamed policy whole now rest → map asset_of now ≡ whole
all_named policy whole now rest none part = sym (append-nil (map asset_of now)) ∙ ap (λ (es : List (Vec ℕ × ℤ)). map asset_of now ++ assets_under policy (named es)) (sym none) ∙ part

-- the same of policies
abbrev pub IsPartFlat : (whole : List Much) → (now : List Held) → List (ScriptHash × Amounts) → Type 0
IsPartFlat whole now rest = map asset_of now ++ flat (listed rest) ≡ whole

pub one_flat : (whole : List Much) (now more : List Held) (left rest : List (ScriptHash × Amounts)) (policy : ScriptHash) (amounts : Amounts) → left ≡ (policy, amounts) ∷ rest → map asset_of more ≡ map asset_of now ++ assets_under policy.bytes (named_sums amounts)
    → IsPartFlat whole now left → IsPartFlat whole more rest
one_flat whole now more left rest policy amounts is put part =
    ap (λ (xs : List Much). xs ++ flat (listed rest)) put ∙ append_assoc (map asset_of now) (assets_under policy.bytes (named_sums amounts)) (flat (listed rest))
    ∙ ap (λ (es : List (ScriptHash × Amounts)). map asset_of now ++ flat (listed es)) (sym is) ∙ part

pub all_flat : (whole : List Much) (now : List Held) (rest : List (ScriptHash × Amounts)) → rest ≡ [] → IsPartFlat whole now rest → map asset_of now ≡ whole
all_flat whole now rest none part = sym (append-nil (map asset_of now)) ∙ ap (λ (es : List (ScriptHash × Amounts)). map asset_of now ++ flat (listed es)) (sym none) ∙ part

-- ---- what a loop prints

drop_here : (xs : List Held) (i : ℕ) (x : Held) → i < length xs → x ≡ get_or xs i x → drop i xs ≡ x ∷ drop (i + 1) xs
drop_here xs i x h is = let e : drop i xs ≡ get_or xs i x ∷ drop (i + 1) xs = rw (add-one, drop-cons xs i x) refl in e ∙ ap (λ (y : Held). y ∷ drop (i + 1) xs) (sym is)

-- what was printed, and the lines that are still to come, are all
abbrev pub IsPartPrinted : (start now : List ℕ) → List Held → ℕ → Type 0
IsPartPrinted start now all i = now ++ flat_map asset_text (map asset_of (drop i all)) ≡ start ++ flat_map asset_text (map asset_of all)

pub one_printed : (start now more : List ℕ) (all : List Held) (i : ℕ) (x : Held) → i < length all → x ≡ get_or all i x → more ≡ now ++ asset_text (asset_of x) → IsPartPrinted start now all i → IsPartPrinted start more all (i + 1)
one_printed start now more all i x lt is put part =
    let behind = flat_map asset_text (map asset_of (drop (i + 1) all)) in
    ap (λ (bs : List ℕ). bs ++ behind) put ∙ append_assoc now (asset_text (asset_of x)) behind
    ∙ ap (λ (xs : List Held). now ++ flat_map asset_text (map asset_of xs)) (sym (drop_here all i x lt is)) ∙ part

pub all_printed : (start now : List ℕ) (all : List Held) (i : ℕ) → length all ≤ i → IsPartPrinted start now all i → now ≡ start ++ flat_map asset_text (map asset_of all)
all_printed start now all i le part = sym (append-nil now) ∙ ap (λ (xs : List Held). now ++ flat_map asset_text (map asset_of xs)) (sym (drop_all i all le)) ∙ part

-- ---- orders

names_total : IsTotalOrder name_cmp
names_total = then_total (on_total (λ (name : List ℕ). length name) nat_cmp_total) nat_list_cmp_total

pub assets_total : IsTotalOrder (asset_cmp {Q = ℤ})
assets_total = then_total (on_total (λ (a : Much). a.policy) nat_list_cmp_total) (on_total (λ (a : Much). a.name) names_total)

-- the order in which sums are listed: by policy, and then by the bytes of the names
abbrev byte_cmp : Much → Much → Ordering
byte_cmp a b = ordering_then (slice_cmp nat_cmp a.policy b.policy) (slice_cmp nat_cmp a.name b.name)

both_equal : (o n : Ordering) → ordering_then o n ≡ Equal → (o ≡ Equal) × (n ≡ Equal)
both_equal Less n h = absurd cc
both_equal Equal n h = (refl, h)
both_equal Greater n h = absurd cc

both_from : (a b : Bool) → a && b ≡ true → (a ≡ true) × (b ≡ true)
both_from true b h = (refl, h)
both_from false b h = absurd cc

both_true : (a b : Bool) → a ≡ true → b ≡ true → a && b ≡ true
both_true true b p q = q
both_true false b p q = absurd cc

-- bytes that are the same tie
equal_if : (o : Ordering) → is_eq o ≡ true → o ≡ Equal
equal_if Less h = absurd cc
equal_if Equal h = refl
equal_if Greater h = absurd cc

same_bytes : (a b : List ℕ) → bytes_eq a b ≡ true → a ≡ b
same_bytes a b h = exact_bytes a b (equal_if (slice_cmp nat_cmp a b) (is_eq-slice_cmp a b ∙ h))

bytes_itself : (a : List ℕ) → bytes_eq a a ≡ true
bytes_itself a = sym (is_eq-slice_cmp a a) ∙ ap is_eq (tied_itself nat_list_cmp_total a)

-- ---- each once

-- once one passes the test, none that comes later does
abbrev Apart : {X : Type 0} → (X → Bool) → List X → Type 0
Apart p [] = Unit {0}
Apart p (x ∷ xs) = (p x ≡ true → AllByRecursion (λ y. p y ≡ false) xs) × Apart p xs

none_pass : {X : Type 0} (p : X → Bool) (xs : List X) → AllByRecursion (λ y. p y ≡ false) xs → count_by p xs ≡ 0
none_pass p [] all = refl
none_pass p (x ∷ xs) all = sum_by-cons (λ y. cond (p y) 1 0) x xs ∙ ap (λ (b : Bool). cond b 1 0 + count_by p xs) all.0 ∙ omega (arith, none_pass p xs all.1)

at_most_one : (b : Bool) (all rest : ℕ) → all ≡ cond b 1 0 + rest → (b ≡ true → rest ≡ 0) → rest ≤ 1 → all ≤ 1
at_most_one true all rest sum none few = let nil = none refl in omega (arith, nil, sum)
at_most_one false all rest sum none few = omega (arith, sum, few)

passes_once : {X : Type 0} (p : X → Bool) (xs : List X) → Apart p xs → count_by p xs ≤ 1
passes_once p [] apart = omega arith
passes_once p (x ∷ xs) apart =
    at_most_one (p x) (count_by p (x ∷ xs)) (count_by p xs) (sum_by-cons (λ y. cond (p y) 1 0) x xs) (λ h. none_pass p xs (apart.0 h)) (passes_once p xs apart.1)

-- assets of one policy and name tie
one_asset : (policy name : List ℕ) (a b : Much) → is_of policy name a ≡ true → is_of policy name b ≡ true → byte_cmp a b ≡ Equal
one_asset policy name a b p q =
    let here = both_from (bytes_eq policy a.policy) (bytes_eq name a.name) p in
    let there = both_from (bytes_eq policy b.policy) (bytes_eq name b.name) q in
    let policies : a.policy ≡ b.policy = sym (same_bytes policy a.policy here.0) ∙ same_bytes policy b.policy there.0 in
    let names : a.name ≡ b.name = sym (same_bytes name a.name here.1) ∙ same_bytes name b.name there.1 in
    ap (λ (o : Ordering). ordering_then o (slice_cmp nat_cmp a.name b.name)) (ap (slice_cmp nat_cmp a.policy) (sym policies) ∙ tied_itself nat_list_cmp_total a.policy)
    ∙ ap (slice_cmp nat_cmp a.name) (sym names) ∙ tied_itself nat_list_cmp_total a.name

other_below : (policy name : List ℕ) (a b : Much) → is_of policy name a ≡ true → byte_cmp a b ≡ Less → is_of policy name b ≡ false
other_below policy name a b p less = by_test (is_of policy name b) refl
  where
    by_test : (t : Bool) → is_of policy name b ≡ t → t ≡ false
    by_test true is = let both : Equal ≡ Less = sym (one_asset policy name a b p is) ∙ less in cc
    by_test false is = refl

all_others : (policy name : List ℕ) (a : Much) (bs : List Much) → is_of policy name a ≡ true → AllByRecursion (λ b. byte_cmp a b ≡ Less) bs → AllByRecursion (λ b. is_of policy name b ≡ false) bs
all_others policy name a [] p below = tt
all_others policy name a (b ∷ bs) p below = (other_below policy name a b p below.0, all_others policy name a bs p below.1)

sorted_apart : (policy name : List ℕ) (xs : List Much) → IsStrictlySortedBy byte_cmp xs → Apart (is_of policy name) xs
unfolding IsStrictlySortedBy
sorted_apart policy name [] sorted = tt
sorted_apart policy name (x ∷ xs) sorted = ((λ p. all_others policy name x xs p sorted.0), sorted_apart policy name xs sorted.1)

-- ---- what is listed is in order

all_both : {X : Type 0} (P : X → Type 0) (xs ys : List X) → AllByRecursion P xs → AllByRecursion P ys → AllByRecursion P (xs ++ ys)
all_both P [] ys here there = there
all_both P (x ∷ xs) ys here there = (here.0, all_both P xs ys here.1 there)

-- names of one policy that come later stand later
later_names : (policy name : List ℕ) (sum : ℤ) (es : List (List ℕ × ℤ)) → AllByRecursion (λ n. slice_cmp nat_cmp name n ≡ Less) (map (λ e. e.0) es) → AllByRecursion (λ b. byte_cmp (much_of policy name sum) b ≡ Less) (assets_under policy es)
later_names policy name sum [] below = tt
later_names policy name sum (e ∷ es) below =
    (ap (λ (o : Ordering). ordering_then o (slice_cmp nat_cmp name e.0)) (tied_itself nat_list_cmp_total policy) ∙ below.0, later_names policy name sum es below.1)

later_policies : (policy name : List ℕ) (sum : ℤ) (bs : List Much) → AllByRecursion (λ b. slice_cmp nat_cmp policy b.policy ≡ Less) bs → AllByRecursion (λ b. byte_cmp (much_of policy name sum) b ≡ Less) bs
later_policies policy name sum [] below = tt
later_policies policy name sum (b ∷ bs) below =
    (ap (λ (o : Ordering). ordering_then o (slice_cmp nat_cmp name b.name)) below.0, later_policies policy name sum bs below.1)

-- the assets of a policy stand before those of the policies that come later
sorted_under : (policy : List ℕ) (es : List (List ℕ × ℤ)) (bs : List Much) → IsStrictlySortedBy (slice_cmp nat_cmp) (map (λ e. e.0) es) → IsStrictlySortedBy byte_cmp bs → AllByRecursion (λ b. slice_cmp nat_cmp policy b.policy ≡ Less) bs
    → IsStrictlySortedBy byte_cmp (assets_under policy es ++ bs)
unfolding IsStrictlySortedBy
sorted_under policy [] bs names sorted below = sorted
sorted_under policy (e ∷ es) bs names sorted below =
    (all_both (λ b. byte_cmp (much_of policy e.0 e.1) b ≡ Less) (assets_under policy es) bs (later_names policy e.0 e.1 es names.0) (later_policies policy e.0 e.1 bs below), sorted_under policy es bs names.1 sorted below)

of_policy : (policy other : List ℕ) (es : List (List ℕ × ℤ)) → slice_cmp nat_cmp policy other ≡ Less → AllByRecursion (λ b. slice_cmp nat_cmp policy b.policy ≡ Less) (assets_under other es)
of_policy policy other [] less = tt
of_policy policy other (e ∷ es) less = (less, of_policy policy other es less)

all_later : (policy : List ℕ) (es : List Entry) → AllByRecursion (λ q. slice_cmp nat_cmp policy q ≡ Less) (map (λ e. e.0) es) → AllByRecursion (λ b. slice_cmp nat_cmp policy b.policy ≡ Less) (flat es)
all_later policy [] below = tt
all_later policy (e ∷ es) below = all_both (λ b. slice_cmp nat_cmp policy b.policy ≡ Less) (assets_under e.0 e.1) (flat es) (of_policy policy e.0 e.1 below.0) (all_later policy es below.1)

sorted_flat : (es : List Entry) → IsStrictlySortedBy (slice_cmp nat_cmp) (map (λ e. e.0) es) → AllByRecursion (λ e. IsStrictlySortedBy (slice_cmp nat_cmp) (map (λ n. n.0) e.1)) es → IsStrictlySortedBy byte_cmp (flat es)
unfolding IsStrictlySortedBy
sorted_flat [] policies names = tt
sorted_flat (e ∷ es) policies names = sorted_under e.0 e.1 (flat es) names.0 (sorted_flat es policies.1 names.1) (all_later e.0 es policies.0)

-- ---- members

first_member : {X : Type 0} (x : X) (xs : List X) → Contains (x ∷ xs) x
first_member x xs = (0, omega arith, refl)

later_member : {X : Type 0} (x y : X) (xs : List X) → Contains xs x → Contains (y ∷ xs) x
later_member x y xs h = (suc h.0, (let lt = h.1 in omega (arith, lt)), h.2)

first_or_later : {X : Type 0} (x y : X) (xs : List X) → Contains (y ∷ xs) x → (y ≡ x) ⊎ Contains xs x
first_or_later {X} x y xs h = at h.0 h.1 h.2
  where
    at : (k : ℕ) → k < length (y ∷ xs) → get_or (y ∷ xs) k x ≡ x → (y ≡ x) ⊎ Contains xs x
    at zero lt is = inl is
    at (suc k) lt is = inr (k, omega (arith, lt), is)

no_member : {X : Type 0} (x : X) → Contains [] x → ⊥
no_member x h = let lt = h.1 in omega (arith, lt)

-- a name among those of a policy
under_from : (policy p n : List ℕ) (s : ℤ) (es : List (List ℕ × ℤ)) → Contains (assets_under policy es) (much_of p n s) → (policy ≡ p) × Contains es (n, s)
under_from policy p n s [] h = absurd (no_member (much_of p n s) h)
under_from policy p n s (e ∷ es) h = elim (first_or_later (much_of p n s) (much_of policy e.0 e.1) (assets_under policy es) h) [
  | inl here ↦
      let policies : policy ≡ p = ap (λ (a : Much). a.policy) here in
      let names : e.0 ≡ n = ap (λ (a : Much). a.name) here in
      let sums : e.1 ≡ s = ap (λ (a : Much). a.quantity) here in
      let entries : e ≡ (n, s) = ap (λ (x : List ℕ). (x, e.1)) names ∙ ap (λ (z : ℤ). (n, z)) sums in
      (policies, subst (λ (x : List ℕ × ℤ). Contains (x ∷ es) (n, s)) (sym entries) (first_member (n, s) es))
  | inr there ↦ let rest = under_from policy p n s es there in (rest.0, later_member (n, s) e es rest.1)
]

under_into : (p n : List ℕ) (s : ℤ) (es : List (List ℕ × ℤ)) → Contains es (n, s) → Contains (assets_under p es) (much_of p n s)
under_into p n s [] h = absurd (no_member (n, s) h)
under_into p n s (e ∷ es) h = elim (first_or_later (n, s) e es h) [
  | inl here ↦ subst (λ (x : List ℕ × ℤ). Contains (much_of p x.0 x.1 ∷ assets_under p es) (much_of p n s)) (sym here) (first_member (much_of p n s) (assets_under p es))
  | inr there ↦ later_member (much_of p n s) (much_of p e.0 e.1) (assets_under p es) (under_into p n s es there)
]

flat_from : (p n : List ℕ) (s : ℤ) (es : List Entry) → Contains (flat es) (much_of p n s) → IsListed p n s es
flat_from p n s [] h = absurd (no_member (much_of p n s) h)
flat_from p n s (e ∷ es) h = elim (Contains-append_cases (assets_under e.0 e.1) (flat es) (much_of p n s) h) [
  | inl here ↦
      let found = under_from e.0 p n s e.1 here in
      let entry : e ≡ (p, e.1) = ap (λ (x : List ℕ). (x, e.1)) found.0 in
      (e.1, subst (λ (x : Entry). Contains (x ∷ es) (p, e.1)) (sym entry) (first_member (p, e.1) es), found.1)
  | inr there ↦ let rest = flat_from p n s es there in (rest.0, later_member (p, rest.0) e es rest.1, rest.2)
]

flat_into : (p n : List ℕ) (s : ℤ) (es : List Entry) → IsListed p n s es → Contains (flat es) (much_of p n s)
flat_into p n s [] h = absurd (no_member (p, h.0) h.1)
flat_into p n s (e ∷ es) h = elim (first_or_later (p, h.0) e es h.1) [
  | inl here ↦
      let policies : e.0 ≡ p = ap (λ (x : Entry). x.0) here in
      let names : e.1 ≡ h.0 = ap (λ (x : Entry). x.1) here in
      Contains-append_left (assets_under e.0 e.1) (flat es) (much_of p n s)
      (subst (λ (q : List ℕ). Contains (assets_under q e.1) (much_of p n s)) (sym policies) (under_into p n s e.1 (subst (λ (ns : List (List ℕ × ℤ)). Contains ns (n, s)) (sym names) h.2)))
  | inr there ↦ Contains-append_right (assets_under e.0 e.1) (flat es) (much_of p n s) (flat_into p n s es (h.0, there, h.2))
]

-- what is gathered
pub are_listed : (total : Asset → ℤ) (es : List Entry) → IsInOrder es → ((policy name : List ℕ) (sum : ℤ) → IsListed policy name sum es ↔ ((total (Named policy name) ≡ sum) × (sum ≢ pos 0))) → AreListed total (flat es)
are_listed total es ordered told = record {
  listed = λ policy name sum. (
    (λ h. (told policy name sum).0 (flat_from policy name sum es h)),
    (λ h. flat_into policy name sum es ((told policy name sum).1 h)),
  );
  once = λ policy name. passes_once (is_of policy name) (flat es) (sorted_apart policy name (flat es) (sorted_flat es ordered.policies ordered.names));
}

-- ---- sorted

-- assets that tie are of one policy and name
same_asset : (a b : Much) → asset_cmp a b ≡ Equal → is_of a.policy a.name b ≡ true
same_asset a b h =
    let two = both_equal (slice_cmp nat_cmp a.policy b.policy) (name_cmp a.name b.name) h in
    let policies : a.policy ≡ b.policy = exact_bytes a.policy b.policy two.0 in
    let names : a.name ≡ b.name = exact_bytes a.name b.name (both_equal _ (slice_cmp nat_cmp a.name b.name) two.1).1 in
    both_true (bytes_eq a.policy b.policy) (bytes_eq a.name b.name) (ap (bytes_eq a.policy) (sym policies) ∙ bytes_itself a.policy) (ap (bytes_eq a.name) (sym names) ∙ bytes_itself a.name)

-- each policy and name at most once
abbrev AreOnce : List Much → Type 0
AreOnce xs = (policy name : List ℕ) → count_by (is_of policy name) xs ≤ 1

once_later : (x : Much) (xs : List Much) → AreOnce (x ∷ xs) → AreOnce xs
once_later x xs once policy name =
    let more = sum_by-cons (λ y. cond (is_of policy name y) 1 0) x xs in
    let few = once policy name in
    omega (arith, more, few)

-- neighbours don't tie
no_tie : (x y : Much) (ys : List Much) → AreOnce (x ∷ y ∷ ys) → asset_cmp x y ≢ Equal
no_tie x y ys once tie =
    let p : Much → Bool = is_of x.policy x.name in
    let itself : p x ≡ true = both_true (bytes_eq x.policy x.policy) (bytes_eq x.name x.name) (bytes_itself x.policy) (bytes_itself x.name) in
    let one : count_by p (x ∷ y ∷ ys) ≡ 1 + count_by p (y ∷ ys) = sum_by-cons (λ z. cond (p z) 1 0) x (y ∷ ys) ∙ ap (λ (b : Bool). cond b 1 0 + count_by p (y ∷ ys)) itself in
    let two : count_by p (y ∷ ys) ≡ 1 + count_by p ys = sum_by-cons (λ z. cond (p z) 1 0) y ys ∙ ap (λ (b : Bool). cond b 1 0 + count_by p ys) (same_asset x y tie) in
    let few = once x.policy x.name in
    absurd (omega (arith, one, two, few))

-- what is neither above nor tied is below
below_else : (o back : Ordering) → o ≡ ordering_reverse back → is_lt back ≡ false → o ≢ Equal → o ≡ Less
below_else o Less turned h apart = absurd cc
below_else o Equal turned h apart = absurd (apart turned)
below_else o Greater turned h apart = turned

below_all : (x y : Much) (ys : List Much) → asset_cmp x y ≡ Less → AllByRecursion (λ z. asset_cmp y z ≡ Less) ys → AllByRecursion (λ z. asset_cmp x z ≡ Less) ys
below_all x y [] less below = tt
below_all x y (z ∷ zs) less below = (IsTotalOrder.trans assets_total x y z less below.0, below_all x y zs less below.1)

module _ {X : Type 0} (f : X → Much) where
  sorted_rest : (x : X) (xs : List X) → IsSortedBy (λ a b. is_lt (asset_cmp (f a) (f b))) (x ∷ xs) → IsSortedBy (λ a b. is_lt (asset_cmp (f a) (f b))) xs
  sorted_rest x xs h = λ k d low lt.
      let next : suc k + 1 ≡ suc (k + 1) = omega arith in
      subst (λ (n : ℕ). is_lt (asset_cmp (f (get_or (x ∷ xs) n d)) (f (get_or xs k d))) ≡ false) next (h (suc k) d (omega arith) (omega arith))

  strictly : (xs : List X) → IsSortedBy (λ a b. is_lt (asset_cmp (f a) (f b))) xs → AreOnce (map f xs) → IsStrictlySortedBy asset_cmp (map f xs)
  unfolding IsStrictlySortedBy
  strictly [] h once = tt
  strictly (x ∷ []) h once = (tt, tt)
  strictly (x ∷ y ∷ ys) h once =
      let less : asset_cmp (f x) (f y) ≡ Less = below_else (asset_cmp (f x) (f y)) (asset_cmp (f y) (f x)) (IsTotalOrder.antisymm assets_total (f x) (f y)) (h 0 x (omega arith) (omega arith)) (no_tie (f x) (f y) (map f ys) once) in
      let rest = strictly (y ∷ ys) (sorted_rest x (y ∷ ys) h) (once_later (f x) (f y ∷ map f ys) once) in
      ((less, below_all (f x) (f y) (map f ys) less rest.0), rest)

  -- what was gathered, once it is sorted
  pub in_order : (total : Asset → ℤ) (gathered sorted : List X) → AreListed total (map f gathered) → IsPermutation gathered sorted → IsSortedBy (λ a b. is_lt (asset_cmp (f a) (f b))) sorted → AreAssetsOf total (map f sorted)
  in_order total gathered sorted listed moved order =
      let same : IsPermutation (map f gathered) (map f sorted) = IsPermutation-map f gathered sorted moved in
      let back : IsPermutation (map f sorted) (map f gathered) = IsPermutation-sym (map f gathered) (map f sorted) same in
      let once : AreOnce (map f sorted) = λ policy name. let count = sum_by-IsPermutation (λ y. cond (is_of policy name y) 1 0) (map f gathered) (map f sorted) same in let few = listed.once policy name in omega (arith, count, few) in
      record {
        listed = λ policy name sum. (
          (λ h. (listed.listed policy name sum).0 (Contains-permutation (map f sorted) (map f gathered) (much_of policy name sum) back h)),
          (λ h. Contains-permutation (map f gathered) (map f sorted) (much_of policy name sum) same ((listed.listed policy name sum).1 h)),
        );
        ordered = strictly sorted order once;
      }
