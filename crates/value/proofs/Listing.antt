-- What is listed of sums, by what they are.
use Rattle.std.proofs.Common.{◌≡◌, ◌≢◌, ℕ, ℤ, pos, Bool, true, false, cond, List, [], ◌∷◌, map, Option, Some, None, refl, sym, ◌∙◌, ap, subst, is_some}
use Rattle.std.specs.Prelude.{◌↔◌, option_map, unwrap_or, IfSome}
use Rattle.std.specs.List.{AllByRecursion, Contains}
use Rattle.std.specs.List.Sorted.{IsStrictlySortedBy}
use Rattle.std.specs.Map.{lookup, keys_of, values_of}
use Rattle.std.specs.Ordering.{nat_cmp, eq_by_cmp, ordering_reverse}
use Rattle.std.specs.Cmp.{eq_by_cmp_equiv}
use Rattle.std.specs.Cmp.Lexicographic.{slice_cmp}
use Rattle.std.specs.declared.cmp.Ordering.{Ordering}
use Rattle.std.specs.declared.cmp.Ordering.TheVariants.{Less, Equal, Greater}
use Rattle.std.proofs.lemmas.Cmp.{nat_list_cmp_total}
use Rattle.std.proofs.lemmas.Map.{lookup-none}
use Rattle.std.proofs.lemmas.Map.Entries.{lookup_head, lookup_tail, none_past_head, none_below_head}
use Rattle.std.proofs.lemmas.Map.Lookups.{exact_bytes}
use Rattle.std.specs.Global.{Vec}
use Rattle.std.proofs.lemmas.Map.Keys.{sorted_tail, IsDistinct-from_sorted}
use Rattle.std.proofs.lemmas.Map.Views.{Contains-from_lookup, lookup-from_Contains}
use Rattle.byte_keys.proofs.ForCallers.{has_bytes, by_bytes, same_from, same_to}
use Rattle.ident.specs.Kinds.{ScriptHash}
use Rattle.value.specs.declared.amounts.Amounts.{Amounts}
use Rattle.value.specs.declared.amounts.AllAmounts.{AllAmounts}
use Rattle.value.specs.Sums.{or_zero, sum_under, sum_under_any, sum_of, amount_under, amount_in, amounts_of}
use Rattle.value.specs.Listed.{named_sums, listed, IsListed, IsInOrder, IsTidy}
use Rattle.value.proofs.Removing.{all_from_found}
use Rattle.value.proofs.Tidying.{no_sum}

-- the test for bytes
abbrev same_bytes : List ℕ → List ℕ → Bool
same_bytes = eq_by_cmp (slice_cmp nat_cmp)

-- ---- entries, and the same as they are listed

module _ {K X Y : Type 0} (f : K → List ℕ) (v : X → Y) where
  abbrev plain : List (K × X) → List (List ℕ × Y)
  plain es = map (λ e. (f e.0, v e.1)) es

  plain_bit : (b : Bool) (x : X) (o : Option X) (p : Option Y) → p ≡ option_map v o → cond b (Some (v x)) p ≡ option_map v (cond b (Some x) o)
  plain_bit true x o p h = refl
  plain_bit false x o p h = h

  lookup_plain : (q : List ℕ) (es : List (K × X)) → lookup (same_bytes q) (plain es) ≡ option_map v (lookup (has_bytes f q) es)
  lookup_plain q [] = refl
  lookup_plain q (e ∷ es) = plain_bit (has_bytes f q e.0) e.1 (lookup (has_bytes f q) es) (lookup (same_bytes q) (plain es)) (lookup_plain q es)

  all_plain : (k : K) (es : List (K × X)) → AllByRecursion (λ y. by_bytes f k y ≡ Less) (keys_of es) → AllByRecursion (λ y. slice_cmp nat_cmp (f k) y ≡ Less) (keys_of (plain es))
  all_plain k [] less = tt
  all_plain k (e ∷ es) less = (less.0, all_plain k es less.1)

  sorted_plain : (es : List (K × X)) → IsStrictlySortedBy (by_bytes f) (keys_of es) → IsStrictlySortedBy (slice_cmp nat_cmp) (keys_of (plain es))
  unfolding IsStrictlySortedBy
  sorted_plain [] sorted = tt
  sorted_plain (e ∷ es) sorted = (all_plain e.0 es sorted.0, sorted_plain es sorted.1)

-- a look-up in a list in order, and its members
found_in : {Y : Type 0} (q : List ℕ) (y : Y) (es : List (List ℕ × Y)) → lookup (same_bytes q) es ≡ Some y → Contains es (q, y)
found_in q y es h = Contains-from_lookup {eq = same_bytes} same_from q y es h

in_found : {Y : Type 0} (q : List ℕ) (y : Y) (es : List (List ℕ × Y)) → IsStrictlySortedBy (slice_cmp nat_cmp) (keys_of es) → Contains es (q, y) → lookup (same_bytes q) es ≡ Some y
in_found q y es sorted h = lookup-from_Contains {eq = same_bytes} (eq_by_cmp_equiv nat_list_cmp_total) q y es (IsDistinct-from_sorted (slice_cmp nat_cmp) (keys_of es) sorted) h

abbrev whole : ℤ → ℤ
whole z = z

-- the names of one policy
names_in_order : (a : Amounts) → IsStrictlySortedBy (slice_cmp nat_cmp) (keys_of (named_sums a))
names_in_order a = sorted_plain (λ k. k.items) whole a.by_name.entries a.ordered

itself : (o : Option ℤ) → option_map whole o ≡ o
itself None = refl
itself (Some z) = refl

named_sum : (a : Amounts) (name : List ℕ) → lookup (same_bytes name) (named_sums a) ≡ sum_under a name
named_sum a name = lookup_plain (λ k. k.items) whole name a.by_name.entries ∙ itself (sum_under a name)

-- ---- the sums that are listed

sum_from : (o : Option Amounts) (names : List (List ℕ × ℤ)) (name : List ℕ) (sum : ℤ) → option_map named_sums o ≡ Some names → Contains names (name, sum) → sum_under_any o name ≡ Some sum
sum_from None names name sum is there = let no : false ≡ true = ap is_some is in cc
sum_from (Some a) names name sum is there =
    let same : named_sums a ≡ names = ap (λ (o : Option (List (List ℕ × ℤ))). unwrap_or o []) is in
    sym (named_sum a name) ∙ in_found name sum (named_sums a) (names_in_order a) (subst (λ (ns : List (List ℕ × ℤ)). Contains ns (name, sum)) (sym same) there)

sum_to : (o : Option Amounts) (name : List ℕ) (sum : ℤ) → sum_under_any o name ≡ Some sum → (names : List (List ℕ × ℤ)) × (option_map named_sums o ≡ Some names) × Contains names (name, sum)
sum_to None name sum is = let no : false ≡ true = ap is_some is in cc
sum_to (Some a) name sum is = (named_sums a, refl, found_in name sum (named_sums a) (named_sum a name ∙ is))

sum_there : (o : Option ℤ) (sum : ℤ) → or_zero o ≡ sum → sum ≢ pos 0 → o ≡ Some sum
sum_there None sum is apart = absurd (apart (sym is))
sum_there (Some z) sum is apart = ap Some is

module _ (all : AllAmounts) where
  policy_listed : (policy : List ℕ) → lookup (same_bytes policy) (listed all.by_policy.entries) ≡ option_map named_sums (amounts_of all policy)
  policy_listed policy = lookup_plain (λ k. k.bytes) named_sums policy all.by_policy.entries

  policies_in_order : IsStrictlySortedBy (slice_cmp nat_cmp) (keys_of (listed all.by_policy.entries))
  policies_in_order = sorted_plain (λ k. k.bytes) named_sums all.by_policy.entries all.ordered

  -- listed are just the sums that are not 0
  pub listing_told : IsTidy all → (policy name : List ℕ) (sum : ℤ) → IsListed policy name sum (listed all.by_policy.entries) ↔ ((amount_in all policy name ≡ sum) × (sum ≢ pos 0))
  listing_told tidy policy name sum = (
    λ h.
        let there = in_found policy h.0 (listed all.by_policy.entries) policies_in_order h.1 in
        let is : sum_of all policy name ≡ Some sum = sum_from (amounts_of all policy) h.0 name sum (sym (policy_listed policy) ∙ there) h.2 in
        (ap or_zero is, λ zero. tidy.sums policy name (is ∙ ap Some zero)),
    λ h.
        let found = sum_to (amounts_of all policy) name sum (sum_there (sum_of all policy name) sum h.0 h.1) in
        (found.0, found_in policy found.0 (listed all.by_policy.entries) (policy_listed policy ∙ found.1), found.2),
  )

all_in_order : (es : List (ScriptHash × Amounts)) → AllByRecursion (λ p. IsStrictlySortedBy (slice_cmp nat_cmp) (map (λ n. n.0) p.1)) (listed es)
all_in_order [] = tt
all_in_order (e ∷ es) = (names_in_order e.1, all_in_order es)

no_names : {X Y : Type 0} (g : X → Y) (es : List X) → map g es ≡ [] → es ≡ []
no_names g [] h = refl
no_names g (e ∷ es) h = cc

all_named : (es : List (ScriptHash × Amounts)) → AllByRecursion (λ a. a.by_name.entries ≢ []) (values_of es) → AllByRecursion (λ p. p.1 ≢ []) (listed es)
all_named [] h = tt
all_named (e ∷ es) h = (λ none. h.0 (no_names (λ n. (n.0.items, n.1)) e.1.by_name.entries none), all_named es h.1)

if_found : (o : Option Amounts) → ((a : Amounts) → o ≡ Some a → a.by_name.entries ≢ []) → IfSome o (λ a. a.by_name.entries ≢ [])
if_found None h = tt
if_found (Some a) h = h a refl

pub listing_in_order : (all : AllAmounts) → IsTidy all → IsInOrder (listed all.by_policy.entries)
listing_in_order all tidy = record {
  policies = policies_in_order all;
  names = all_in_order all.by_policy.entries;
  some = all_named all.by_policy.entries (all_from_found (λ k. k.bytes) (λ a. a.by_name.entries ≢ []) all.by_policy.entries all.ordered (λ q. if_found (amounts_of all q) (tidy.names q)));
}

-- ---- the same sums are listed alike

module _ {Y : Type 0} where
  at_head : (x : List ℕ × Y) (xs : List (List ℕ × Y)) → lookup (same_bytes x.0) (x ∷ xs) ≡ Some x.1
  at_head x xs = lookup_head (same_bytes x.0) x xs (same_to x.0 x.0 refl)

  past_head : (q : List ℕ) (x : List ℕ × Y) (xs : List (List ℕ × Y)) → IsStrictlySortedBy (slice_cmp nat_cmp) (keys_of (x ∷ xs)) → same_bytes q x.0 ≡ true → lookup (same_bytes q) xs ≡ None
  past_head q x xs s is = lookup-none (same_bytes q) xs (none_past_head (eq_by_cmp_equiv nat_list_cmp_total) q x xs (IsDistinct-from_sorted (slice_cmp nat_cmp) (keys_of (x ∷ xs)) s) is)

  below_head : (q : List ℕ) (y : List ℕ × Y) (ys : List (List ℕ × Y)) → IsStrictlySortedBy (slice_cmp nat_cmp) (keys_of (y ∷ ys)) → slice_cmp nat_cmp q y.0 ≡ Less → lookup (same_bytes q) (y ∷ ys) ≡ None
  below_head q y ys t less = lookup-none (same_bytes q) (y ∷ ys) (none_below_head nat_list_cmp_total q y ys t less)

  module _ (x y : List ℕ × Y) (xs ys : List (List ℕ × Y)) (s : IsStrictlySortedBy (slice_cmp nat_cmp) (keys_of (x ∷ xs))) (t : IsStrictlySortedBy (slice_cmp nat_cmp) (keys_of (y ∷ ys)))
      (h : (q : List ℕ) → lookup (same_bytes q) (x ∷ xs) ≡ lookup (same_bytes q) (y ∷ ys)) where
    by_heads : (o : Ordering) → slice_cmp nat_cmp x.0 y.0 ≡ o → x.0 ≡ y.0
    by_heads Less is = absurd (no_sum (lookup (same_bytes x.0) (y ∷ ys)) (below_head x.0 y ys t is) (sym (h x.0) ∙ at_head x xs))
    by_heads Equal is = exact_bytes x.0 y.0 is
    by_heads Greater is = absurd (no_sum (lookup (same_bytes y.0) (x ∷ xs)) (below_head y.0 x xs s (nat_list_cmp_total.antisymm y.0 x.0 ∙ ap ordering_reverse is)) (h y.0 ∙ at_head y ys))

    same_head : x.0 ≡ y.0
    same_head = by_heads (slice_cmp nat_cmp x.0 y.0) refl

    same_value : x.1 ≡ y.1
    same_value = ap (λ (o : Option Y). unwrap_or o x.1) (sym (at_head x xs) ∙ h x.0 ∙ lookup_head (same_bytes x.0) y ys (same_to x.0 y.0 same_head))

    tails_bit : (q : List ℕ) (b : Bool) → same_bytes q x.0 ≡ b → lookup (same_bytes q) xs ≡ lookup (same_bytes q) ys
    tails_bit q true is = past_head q x xs s is ∙ sym (past_head q y ys t (sym (ap (same_bytes q) same_head) ∙ is))
    tails_bit q false is = sym (lookup_tail (same_bytes q) x xs is) ∙ h q ∙ lookup_tail (same_bytes q) y ys (sym (ap (same_bytes q) same_head) ∙ is)

  same_lists : (es fs : List (List ℕ × Y)) → IsStrictlySortedBy (slice_cmp nat_cmp) (keys_of es) → IsStrictlySortedBy (slice_cmp nat_cmp) (keys_of fs)
      → ((q : List ℕ) → lookup (same_bytes q) es ≡ lookup (same_bytes q) fs) → es ≡ fs
  same_lists [] [] s t h = refl
  same_lists [] (y ∷ ys) s t h = absurd (no_sum (lookup (same_bytes y.0) (y ∷ ys)) (sym (h y.0)) (at_head y ys))
  same_lists (x ∷ xs) [] s t h = absurd (no_sum (lookup (same_bytes x.0) (x ∷ xs)) (h x.0) (at_head x xs))
  same_lists (x ∷ xs) (y ∷ ys) s t h =
      let rest = same_lists xs ys (sorted_tail (slice_cmp nat_cmp) x.0 (keys_of xs) s) (sorted_tail (slice_cmp nat_cmp) y.0 (keys_of ys) t) (λ q. tails_bit x y xs ys s t h q (same_bytes q x.0) refl) in
      λ i. (same_head x y xs ys s t h i, same_value x y xs ys s t h i) ∷ rest i

-- where names stand and none has 0, some name has an amount
has_amount : (a : Amounts) (es : List (Vec ℕ × ℤ)) → es ≡ a.by_name.entries → ((name : List ℕ) → sum_under a name ≢ Some (pos 0)) → es ≢ []
    → ((name : List ℕ) → amount_under a name ≡ pos 0) → ⊥
has_amount a [] is apart full zero = full refl
has_amount a (e ∷ es) is apart full zero =
    let own : has_bytes (λ k. k.items) e.0.items e.0 ≡ true = same_to e.0.items e.0.items refl in
    let here : sum_under a e.0.items ≡ Some e.1 = rw (sym is, own) refl in
    apart e.0.items (here ∙ ap Some (sym (ap or_zero here) ∙ zero e.0.items))

-- sums are kept as listed
record IsKept (o : Option Amounts) : Type 0 where
  sums : (name : List ℕ) → sum_under_any o name ≢ Some (pos 0)
  names : (a : Amounts) → o ≡ Some a → a.by_name.entries ≢ []

kept_at : (all : AllAmounts) (policy : List ℕ) → IsTidy all → IsKept (amounts_of all policy)
kept_at all policy tidy = record { sums = tidy.sums policy; names = tidy.names policy }

same_sum : (o u : Option ℤ) → o ≢ Some (pos 0) → u ≢ Some (pos 0) → or_zero o ≡ or_zero u → o ≡ u
same_sum None None here there same = refl
same_sum None (Some z) here there same = absurd (there (ap Some (sym same)))
same_sum (Some z) None here there same = absurd (here (ap Some same))
same_sum (Some z) (Some w) here there same = ap Some same

same_named : (o u : Option Amounts) → IsKept o → IsKept u → ((name : List ℕ) → or_zero (sum_under_any o name) ≡ or_zero (sum_under_any u name))
    → option_map named_sums o ≡ option_map named_sums u
same_named None None here there same = refl
same_named None (Some b) here there same = absurd (has_amount b b.by_name.entries refl there.sums (there.names b refl) (λ name. sym (same name)))
same_named (Some a) None here there same = absurd (has_amount a a.by_name.entries refl here.sums (here.names a refl) same)
same_named (Some a) (Some b) here there same =
    ap Some (same_lists (named_sums a) (named_sums b) (names_in_order a) (names_in_order b)
    (λ q. named_sum a q ∙ same_sum (sum_under a q) (sum_under b q) (here.sums q) (there.sums q) (same q) ∙ sym (named_sum b q)))

pub same_listing : (old new : AllAmounts) → IsTidy old → IsTidy new → ((policy name : List ℕ) → amount_in new policy name ≡ amount_in old policy name)
    → listed new.by_policy.entries ≡ listed old.by_policy.entries
same_listing old new tidy_old tidy_new same =
    same_lists (listed new.by_policy.entries) (listed old.by_policy.entries) (policies_in_order new) (policies_in_order old)
    (λ q. policy_listed new q ∙ same_named (amounts_of new q) (amounts_of old q) (kept_at new q tidy_new) (kept_at old q tidy_old) (same q) ∙ sym (policy_listed old q))

-- ---- nothing is listed where there is nothing

some_listed : (all : AllAmounts) → IsTidy all → ((policy name : List ℕ) → amount_in all policy name ≡ pos 0) → (es : List (ScriptHash × Amounts)) → es ≡ all.by_policy.entries → es ≡ []
some_listed all tidy zero [] is = refl
some_listed all tidy zero (e ∷ es) is =
    let own : has_bytes (λ k. k.bytes) e.0.bytes e.0 ≡ true = same_to e.0.bytes e.0.bytes refl in
    let here : amounts_of all e.0.bytes ≡ Some e.1 = rw (sym is, own) refl in
    absurd (has_amount e.1 e.1.by_name.entries refl
    (λ name is_zero. tidy.sums e.0.bytes name (ap (λ (o : Option Amounts). sum_under_any o name) here ∙ is_zero))
    (tidy.names e.0.bytes e.1 here)
    (λ name. sym (ap (λ (o : Option Amounts). or_zero (sum_under_any o name)) here) ∙ zero e.0.bytes name))

pub none_listed : (all : AllAmounts) → IsTidy all → (all.by_policy.entries ≡ []) ↔ ((policy name : List ℕ) → amount_in all policy name ≡ pos 0)
none_listed all tidy = (λ none policy name. rw none refl, λ zero. some_listed all tidy zero all.by_policy.entries refl)
