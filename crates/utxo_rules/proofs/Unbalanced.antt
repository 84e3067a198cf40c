-- The first of a policy's names is found by a walk over them, and with it the first asset whose sum is not 0.
use Rattle.std.proofs.Common.{◌≡◌, ◌≢◌, ℕ, zero, suc, ◌<◌, ℤ, pos, Bool, true, false, List, [], ◌∷◌, length, map, refl, sym, ap, subst, ◌∙◌, arith, inl, inr, ◌⊎◌}
use Rattle.std.specs.Global.{Vec}
use Rattle.std.specs.Prelude.{◌↔◌, if◌then◌else◌, slice_index_or, ◌-ℤ◌}
use Rattle.std.specs.List.{AllByRecursion, Contains}
use Rattle.std.specs.List.Sorted.{IsStrictlySortedBy}
use Rattle.std.specs.Ordering.{nat_cmp, int_eq, is_lt, ordering_then, ordering_reverse}
use Rattle.std.specs.declared.cmp.Ordering.{Ordering}
use Rattle.std.specs.declared.cmp.Ordering.TheVariants.{Less, Equal, Greater}
use Rattle.std.specs.Cmp.{IsTotalOrder, tied_itself, signed_Decides}
use Rattle.std.specs.Cmp.Lexicographic.{slice_cmp}
use Rattle.std.proofs.lemmas.Cmp.{nat_list_cmp_total, nat_cmp_total, then_total, on_total}
use Rattle.std.proofs.lemmas.Int.{ints}
use Rattle.model.specs.Value.{Asset, Ada, Named}
use Rattle.model.specs.Transaction.{Transaction}
use Rattle.model.specs.Utxo.{Utxo}
use Rattle.model.specs.Balance.{consumed, produced, is_balanced}
use Rattle.model.proofs.Balances.{preserves_balanced}
use Rattle.value.specs.Listed.{IsListed, IsInOrder}
use Rattle.model.specs.Explaining.{name_cmp, asset_cmp, IsFirstUnbalanced}
use Rattle.utxo_rules.specs.Unbalanced.{IsFirstOff, IsFirstName}

-- ---- the order of names

pub names_total : IsTotalOrder name_cmp
names_total = then_total (on_total (λ (n : List ℕ). length n) nat_cmp_total) nat_list_cmp_total

-- of two that are ordered either way round
turned : (a b : List ℕ) → name_cmp a b ≡ Greater → name_cmp b a ≡ Less
turned a b is = IsTotalOrder.antisymm names_total b a ∙ ap ordering_reverse is

-- ---- members

pub contained : {X : Type 0} (P : X → Type 0) (xs : List X) (x : X) → AllByRecursion P xs → Contains xs x → P x
contained {X} P xs x all h = at xs h.0 all h.1 h.2
  where
    at : (ys : List X) (k : ℕ) → AllByRecursion P ys → k < length ys → slice_index_or ys k x ≡ x → P x
    at [] k all lt is = absurd (omega (arith, lt))
    at (y ∷ ys) zero all lt is = subst P is all.0
    at (y ∷ ys) (suc k) all lt is = at ys k all.1 (omega (arith, lt)) is

later : {X : Type 0} (x y : X) (xs : List X) → Contains xs x → Contains (y ∷ xs) x
later x y xs h = (suc h.0, (let lt = h.1 in omega (arith, lt)), h.2)

-- a member is the first, or one of the others
first_or_later : {X : Type 0} (x y : X) (xs : List X) → Contains (y ∷ xs) x → (y ≡ x) ⊎ Contains xs x
first_or_later {X} x y xs h = at h.0 h.1 h.2
  where
    at : (k : ℕ) → k < length (y ∷ xs) → slice_index_or (y ∷ xs) k x ≡ x → (y ≡ x) ⊎ Contains xs x
    at zero lt is = inl is
    at (suc k) lt is = inr (k, omega (arith, lt), is)

-- ---- the walk

-- entries as they are listed
abbrev pub named : List (Vec ℕ × ℤ) → List (List ℕ × ℤ)
named es = map (λ e. (e.0.items, e.1)) es

-- the one of two names that comes first
abbrev pub earlier : List ℕ → List ℕ → List ℕ
earlier name other = if is_lt (name_cmp other name) then other else name

-- the first of a name and these
abbrev pub first_of : List ℕ → List (List ℕ × ℤ) → List ℕ
first_of name [] = name
first_of name (e ∷ es) = first_of (earlier name e.0) es

-- a name does not come before another
abbrev NotBefore : List ℕ → List ℕ → Type 0
NotBefore first other = name_cmp other first ≢ Less

first_of_all : (name : List ℕ) (es : List (List ℕ × ℤ)) → NotBefore (first_of name es) name × AllByRecursion (λ e. NotBefore (first_of name es) e.0) es
first_of_all name [] = ((λ less. let both : Equal ≡ Less = sym (tied_itself names_total name) ∙ less in cc), tt)
first_of_all name (e ∷ es) = by_order (name_cmp e.0 name) refl (first_of_all e.0 es) (first_of_all name es)
  where
    by_order : (r : Ordering) → name_cmp e.0 name ≡ r
        → NotBefore (first_of e.0 es) e.0 × AllByRecursion (λ x. NotBefore (first_of e.0 es) x.0) es → NotBefore (first_of name es) name × AllByRecursion (λ x. NotBefore (first_of name es) x.0) es
        → NotBefore (first_of (if is_lt r then e.0 else name) es) name × (NotBefore (first_of (if is_lt r then e.0 else name) es) e.0 × AllByRecursion (λ x. NotBefore (first_of (if is_lt r then e.0 else name) es) x.0) es)
    by_order Less is by_it by_name = ((λ less. by_it.0 (IsTotalOrder.trans names_total e.0 name (first_of e.0 es) is less)), (by_it.0, by_it.1))
    by_order Equal is by_it by_name = (by_name.0, ((λ less. by_name.0 (sym (IsTotalOrder.congr names_total e.0 name (first_of name es) is) ∙ less)), by_name.1))
    by_order Greater is by_it by_name = (by_name.0, ((λ less. by_name.0 (IsTotalOrder.trans names_total name e.0 (first_of name es) (turned e.0 name is) less)), by_name.1))

first_of_in : (name : List ℕ) (z : ℤ) (es : List (List ℕ × ℤ)) → (sum : ℤ) × Contains ((name, z) ∷ es) (first_of name es, sum)
first_of_in name z [] = (z, (0, omega arith, refl))
first_of_in name z (e ∷ es) = by_test (is_lt (name_cmp e.0 name)) (first_of_in e.0 e.1 es) (first_of_in name z es)
  where
    by_test : (b : Bool) → (sum : ℤ) × Contains (e ∷ es) (first_of e.0 es, sum) → (sum : ℤ) × Contains ((name, z) ∷ es) (first_of name es, sum)
        → (sum : ℤ) × Contains ((name, z) ∷ e ∷ es) (first_of (if b then e.0 else name) es, sum)
    by_test true by_it by_name = (by_it.0, later (first_of e.0 es, by_it.0) (name, z) (e ∷ es) by_it.1)
    by_test false by_it by_name = elim (first_or_later (first_of name es, by_name.0) (name, z) es by_name.1) [
      | inl here ↦ (by_name.0, (0, omega arith, here))
      | inr there ↦ (by_name.0, later (first_of name es, by_name.0) (name, z) (e ∷ es) (later (first_of name es, by_name.0) e es there))
    ]

pub first_name_found : (names : List (List ℕ × ℤ)) (name : List ℕ) (z : ℤ) (es : List (List ℕ × ℤ)) (found : List ℕ) → names ≡ (name, z) ∷ es → found ≡ first_of name es → IsFirstName names found
first_name_found names name z es found is found_is =
    let whole : IsFirstName ((name, z) ∷ es) (first_of name es) = record {
      there = first_of_in name z es;
      first = λ other sum member less. contained (λ (e : List ℕ × ℤ). NotBefore (first_of name es) e.0) ((name, z) ∷ es) (other, sum) (first_of_all name es) member less;
    } in
    subst (IsFirstName names) (sym found_is) (subst (λ (ns : List (List ℕ × ℤ)). IsFirstName ns (first_of name es)) (sym is) whole)

-- ---- the first asset

zero_or : (z : ℤ) → (z ≡ pos 0) ⊎ (z ≢ pos 0)
zero_or z = by_test (int_eq z (pos 0)) refl
  where
    by_test : (b : Bool) → int_eq z (pos 0) ≡ b → (z ≡ pos 0) ⊎ (z ≢ pos 0)
    by_test true is = inl ((signed_Decides z (pos 0)).0 is)
    by_test false is = inr (λ none. let both : false ≡ true = sym is ∙ (signed_Decides z (pos 0)).1 none in cc)

-- a policy with its names and their sums
abbrev Entry : Type 0
Entry = List ℕ × List (List ℕ × ℤ)

abbrev entry : List ℕ → List (List ℕ × ℤ) → Entry
entry policy names = (policy, names)

all_mapped : {X Y : Type 0} (f : X → Y) (P : Y → Type 0) (xs : List X) → AllByRecursion P (map f xs) → AllByRecursion (λ x. P (f x)) xs
all_mapped f P [] all = tt
all_mapped f P (x ∷ xs) all = (all.0, all_mapped f P xs all.1)

policies_after : (p : List ℕ) (N : List (List ℕ × ℤ)) (rest : List (Entry)) → IsInOrder ((p, N) ∷ rest) → AllByRecursion (λ e. slice_cmp nat_cmp p e.0 ≡ Less) rest
unfolding IsStrictlySortedBy
policies_after p N rest ordered = all_mapped (λ (e : Entry). e.0) (λ q. slice_cmp nat_cmp p q ≡ Less) rest ordered.policies.0

module _ (total : Asset → ℤ) where
  pub ada_off : total Ada ≢ pos 0 → IsFirstOff total Ada
  ada_off off = record { differs = off; first = none_before }
    where
      none_before : (other : Asset) → asset_cmp other Ada ≡ Less → total other ≡ pos 0
      none_before Ada less = absurd cc
      none_before (Named policy name) less = absurd cc

  module _ (all : List (Entry)) (told : (policy name : List ℕ) (sum : ℤ) → IsListed policy name sum all ↔ ((total (Named policy name) ≡ sum) × (sum ≢ pos 0))) where
    pub none_off : all ≡ [] → total Ada ≡ pos 0 → (asset : Asset) → total asset ≡ pos 0
    none_off nothing ada Ada = ada
    none_off nothing ada (Named policy name) = elim (zero_or (total (Named policy name))) [
      | inl none ↦ none
      | inr off ↦
          let listed = (told policy name (total (Named policy name))).1 (refl, off) in
          let lt = listed.1.1 in
          absurd (omega (arith, lt, ap (λ (xs : List (Entry)). length xs) nothing))
    ]

    module _ (p : List ℕ) (N : List (List ℕ × ℤ)) (rest : List (Entry)) (is : all ≡ (p, N) ∷ rest) where
      pub some_names : IsInOrder all → N ≢ []
      some_names ordered = (subst IsInOrder is ordered).some.0

      pub named_off : (n : List ℕ) → IsInOrder all → total Ada ≡ pos 0 → IsFirstName N n → IsFirstOff total (Named p n)
      named_off n ordered ada found = record {
        differs =
            let member : Contains all (p, N) = subst (λ (xs : List (Entry)). Contains xs (p, N)) (sym is) (0, omega arith, refl) in
            let listed = (told p n found.there.0).0 (N, member, found.there.1) in
            λ none. listed.1 (sym listed.0 ∙ none);
        first = none_before;
      }
        where
          -- of this policy the names decide, and another one comes after it
          not_before : (q m : List ℕ) (names : List (List ℕ × ℤ)) (sum : ℤ) → (entry p N ≡ entry q names) ⊎ Contains rest (q, names) → Contains names (m, sum) → asset_cmp (Named q m) (Named p n) ≡ Less → ⊥
          not_before q m names sum (inl same) member less =
              let policies : p ≡ q = ap (λ (e : Entry). e.0) same in
              let names_same : names ≡ N = sym (ap (λ (e : Entry). e.1) same) in
              let tied : slice_cmp nat_cmp q p ≡ Equal = ap (slice_cmp nat_cmp q) policies ∙ tied_itself nat_list_cmp_total q in
              let by_name : name_cmp m n ≡ Less = sym (ap (λ (o : Ordering). ordering_then o (name_cmp m n)) tied) ∙ less in
              found.first m sum (subst (λ (ns : List (List ℕ × ℤ)). Contains ns (m, sum)) names_same member) by_name
          not_before q m names sum (inr there) member less =
              let after : slice_cmp nat_cmp p q ≡ Less = contained (λ (e : Entry). slice_cmp nat_cmp p e.0 ≡ Less) rest (q, names) (policies_after p N rest (subst IsInOrder is ordered)) there in
              let before : slice_cmp nat_cmp q p ≡ Greater = IsTotalOrder.antisymm nat_list_cmp_total q p ∙ ap ordering_reverse after in
              let both : Greater ≡ Less = sym (ap (λ (o : Ordering). ordering_then o (name_cmp m n)) before) ∙ less in
              cc

          none_before : (other : Asset) → asset_cmp other (Named p n) ≡ Less → total other ≡ pos 0
          none_before Ada less = ada
          none_before (Named q m) less = elim (zero_or (total (Named q m))) [
            | inl none ↦ none
            | inr off ↦
                let listed = (told q m (total (Named q m))).1 (refl, off) in
                let at = subst (λ (xs : List (Entry)). Contains xs (q, listed.0)) is listed.1 in
                absurd (not_before q m listed.0 (total (Named q m)) (first_or_later (q, listed.0) (p, N) rest at) listed.2 less)
          ]

-- ---- what is left over of each asset

module _ (utxo : Utxo) (t : Transaction) (total : Asset → ℤ) (left : (asset : Asset) → total asset ≡ consumed utxo t asset -ℤ produced t asset) where
  pub first_unbalanced : (asset : Asset) → IsFirstOff total asset → IsFirstUnbalanced utxo t asset
  first_unbalanced asset off = record {
    differs = λ same. off.differs (let l = left asset in omega (arith, ints, l, same));
    first = λ other less. let none = off.first other less in let l = left other in omega (arith, ints, l, none);
  }

  pub nothing_left : ((asset : Asset) → total asset ≡ pos 0) → is_balanced utxo t ≡ true
  nothing_left none = preserves_balanced utxo t (λ asset. let nil = none asset in let l = left asset in omega (arith, ints, l, nil))
