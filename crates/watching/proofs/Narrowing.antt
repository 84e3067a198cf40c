-- The watched ones of unspent outputs, and what a transaction makes of them.
use Rattle.std.proofs.Common.{◌≡◌, Bool, true, false, cond, ◌||◌, List, [], ◌∷◌, ◌++◌, Option, Some, None, refl, sym, ap, ◌∙◌}
use Rattle.std.specs.Prelude.{filter, if◌then◌else◌, is_some, option_to_list}
use Rattle.std.specs.List.{list_any}
use Rattle.std.specs.FinMap as finite
use Rattle.std.specs.Ordering.{eq_by_cmp}
use Rattle.model.specs.Transaction.{Input, Output, Transaction, input_cmp}
use Rattle.model.specs.Utxo.{Utxo, output_at, outputs_at, without, new_pairs, with_pairs, is_one_of, utxo_after}
use Rattle.model.proofs.Unspent.{inputs_total, same_pairs, at_inserted, at_without}
use Rattle.watching.specs.Owned.{only_if}
use Rattle.watching.specs.Which.{Which, All, Addresses, Policies, is_watched, watched_outputs, watched_pairs, watched_among, AreWatched, is_all, WatchedAreLeft, NoneIsLeftOut}
use Rattle.watching.specs.Histories.{owners_of, owners_in, is_told}
use Rattle.watching.specs.Advances.{placed, with_watched}
use Rattle.watching.proofs.Sifted.{sorted_sifted, found_sifted}

-- ---- what stands where

pub at_watched : WatchedAreLeft
unfolding watched_among
at_watched which u q =
    let es = finite.entries u in
    let sorted = finite.entries_sorted u in
    finite.get-from_sorted input_cmp (watched_pairs which es) q (sorted_sifted (λ p. is_watched which p.1) es sorted)
    ∙ found_sifted (is_watched which) q es sorted
    ∙ ap (only_if (is_watched which)) (sym (finite.get-entries u q))

pub watched_entries : (which : Which) (u : Utxo) → finite.entries (watched_among which u) ≡ watched_pairs which (finite.entries u)
unfolding watched_among
watched_entries which u =
    finite.entries-from_sorted input_cmp (watched_pairs which (finite.entries u)) (sorted_sifted (λ p. is_watched which p.1) (finite.entries u) (finite.entries_sorted u))

twice_if : (test : Output → Bool) (o : Option Output) → only_if test (only_if test o) ≡ only_if test o
twice_if test None = refl
twice_if test (Some x) =
    elim (test x) as (λ b. test x ≡ b → only_if test (if b then Some x else None) ≡ (if b then Some x else None)) [
      | true ↦ λ is. ap (λ (b : Bool). if b then Some x else None) is
      | false ↦ λ _. refl
    ] refl

-- none of them is left out when they are looked for again
pub watched_again : (which : Which) (u : Utxo) → AreWatched which (watched_among which u)
watched_again which u = same_pairs (watched_among which (watched_among which u)) (watched_among which u) (λ q.
    at_watched which (watched_among which u) q ∙ ap (only_if (is_watched which)) (at_watched which u q)
    ∙ twice_if (is_watched which) (output_at u q) ∙ sym (at_watched which u q))

pub still_watched : (which : Which) (u w : Utxo) → w ≡ watched_among which u → AreWatched which w
still_watched which u w is = ap (watched_among which) is ∙ watched_again which u ∙ sym is

-- ---- all outputs

all_if : (o : Option Output) → only_if (is_watched All) o ≡ o
all_if None = refl
all_if (Some x) = refl

pub all_watched : (u : Utxo) → watched_among All u ≡ u
all_watched u = same_pairs (watched_among All u) u (λ q. at_watched All u q ∙ all_if (output_at u q))

all_outputs : (os : List Output) → watched_outputs All os ≡ os
all_outputs [] = refl
all_outputs (o ∷ os) = ap (λ (xs : List Output). o ∷ xs) (all_outputs os)

pub none_left_out : NoneIsLeftOut
none_left_out = (all_watched, all_outputs)

pub all_are_watched : (which : Which) (u : Utxo) → is_all which ≡ true → u ≡ watched_among which u
all_are_watched All u is = sym (all_watched u)
all_are_watched (Addresses addresses) u is = absurd (let no : false ≡ true = is in cc)
all_are_watched (Policies policies) u is = absurd (let no : false ≡ true = is in cc)

-- ---- a transaction

if_less : (test : Output → Bool) (b : Bool) (o : Option Output) → cond b None (only_if test o) ≡ only_if test (cond b None o)
if_less test true o = refl
if_less test false o = refl

if_more : (test : Output → Bool) (b : Bool) (x : Output) (o : Option Output) → cond b (only_if test (Some x)) (only_if test o) ≡ only_if test (cond b (Some x) o)
if_more test true x o = refl
if_more test false x o = refl

without_watched : (which : Which) (inputs : List Input) (u w : Utxo) → w ≡ watched_among which u → without inputs w ≡ watched_among which (without inputs u)
without_watched which inputs u w is = same_pairs (without inputs w) (watched_among which (without inputs u)) (λ q.
    at_without inputs w q
    ∙ ap (λ (o : Option Output). cond (is_one_of inputs q) None o) (ap (λ (v : Utxo). output_at v q) is ∙ at_watched which u q)
    ∙ if_less (is_watched which) (is_one_of inputs q) (output_at u q)
    ∙ ap (only_if (is_watched which)) (sym (at_without inputs u q))
    ∙ sym (at_watched which (without inputs u) q))

at_placed : (which : Which) (i : Input) (x : Output) (u : Utxo) (q : Input) → output_at (placed which i x u) q ≡ cond (eq_by_cmp input_cmp q i) (only_if (is_watched which) (Some x)) (output_at u q)
at_placed which i x u q =
    elim (is_watched which x) as (λ b. output_at (if b then finite.insert u i x else finite.remove u i) q ≡ cond (eq_by_cmp input_cmp q i) (if b then Some x else None) (output_at u q)) [
      | true ↦ at_inserted u i x q
      | false ↦ finite.get-remove inputs_total u i q
    ]

placed_watched : (which : Which) (i : Input) (x : Output) (u w : Utxo) → w ≡ watched_among which u → placed which i x w ≡ watched_among which (finite.insert u i x)
placed_watched which i x u w is = same_pairs (placed which i x w) (watched_among which (finite.insert u i x)) (λ q.
    let tie = eq_by_cmp input_cmp q i in
    at_placed which i x w q
    ∙ ap (λ (o : Option Output). cond tie (only_if (is_watched which) (Some x)) o) (ap (λ (v : Utxo). output_at v q) is ∙ at_watched which u q)
    ∙ if_more (is_watched which) tie x (output_at u q)
    ∙ ap (only_if (is_watched which)) (sym (at_inserted u i x q))
    ∙ sym (at_watched which (finite.insert u i x) q))

pairs_watched : (which : Which) (ps : List (Input × Output)) (u w : Utxo) → w ≡ watched_among which u → with_watched which ps w ≡ watched_among which (with_pairs ps u)
pairs_watched which [] u w is = is
pairs_watched which (p ∷ ps) u w is = pairs_watched which ps (finite.insert u p.0 p.1) (placed which p.0 p.1 w) (placed_watched which p.0 p.1 u w is)

-- of the watched ones alone is left what is left of all
pub after_watched : (which : Which) (t : Transaction) (u w : Utxo) → w ≡ watched_among which u → watched_among which (utxo_after w t) ≡ watched_among which (utxo_after u t)
unfolding utxo_after
after_watched which t u w is =
    sym (pairs_watched which (new_pairs t) (without t.inputs w) (without t.inputs w) (without_watched which t.inputs w w (sym (still_watched which u w is))))
    ∙ pairs_watched which (new_pairs t) (without t.inputs u) (without t.inputs w) (without_watched which t.inputs u w is)

-- and so it is put in
pub left_watched : (which : Which) (inputs : List Input) (ps : List (Input × Output)) (u : Utxo) → AreWatched which u → with_watched which ps (without inputs u) ≡ watched_among which (with_pairs ps (without inputs u))
left_watched which inputs ps u are = pairs_watched which ps (without inputs u) (without inputs u) (without_watched which inputs u u (sym are))

-- ---- the outputs that it spends and makes

first_found : (test : Output → Bool) (o : Option Output) (xs ys : List Output) → filter test xs ≡ filter test ys → filter test (option_to_list (only_if test o) ++ xs) ≡ filter test (option_to_list o ++ ys)
first_found test None xs ys rest = rest
first_found test (Some x) xs ys rest =
    elim (test x) as (λ b. test x ≡ b → filter test (option_to_list (if b then Some x else None) ++ xs) ≡ cond b (x ∷ filter test ys) (filter test ys)) [
      | true ↦ λ is. ap (λ (b : Bool). cond b (x ∷ filter test xs) (filter test xs)) is ∙ ap (λ (zs : List Output). x ∷ zs) rest
      | false ↦ λ _. rest
    ] refl

-- what is spent of the watched ones alone
spent_watched : (which : Which) (inputs : List Input) (u w : Utxo) → w ≡ watched_among which u → watched_outputs which (outputs_at w inputs) ≡ watched_outputs which (outputs_at u inputs)
spent_watched which [] u w is = refl
spent_watched which (i ∷ inputs) u w is =
    ap (λ (o : Option Output). watched_outputs which (option_to_list o ++ outputs_at w inputs)) (ap (λ (v : Utxo). output_at v i) is ∙ at_watched which u i)
    ∙ first_found (is_watched which) (output_at u i) (outputs_at w inputs) (outputs_at u inputs) (spent_watched which inputs u w is)

-- each that is found is watched
its_own : (which : Which) (u : Utxo) (i : Input) → AreWatched which u → output_at u i ≡ only_if (is_watched which) (output_at u i)
its_own which u i are = sym (ap (λ (v : Utxo). output_at v i) are) ∙ at_watched which u i

first_kept : (test : Output → Bool) (o : Option Output) (xs : List Output) → o ≡ only_if test o → filter test xs ≡ xs → filter test (option_to_list o ++ xs) ≡ option_to_list o ++ xs
first_kept test None xs is rest = rest
first_kept test (Some x) xs is rest =
    elim (test x) as (λ b. Some x ≡ (if b then Some x else None) → cond b (x ∷ filter test xs) (filter test xs) ≡ x ∷ xs) [
      | true ↦ λ _. ap (λ (zs : List Output). x ∷ zs) rest
      | false ↦ λ no. absurd (let clash : Some x ≡ None = no in cc)
    ] is

pub spent_kept : (which : Which) (inputs : List Input) (u : Utxo) → AreWatched which u → watched_outputs which (outputs_at u inputs) ≡ outputs_at u inputs
spent_kept which [] u are = refl
spent_kept which (i ∷ inputs) u are = first_kept (is_watched which) (output_at u i) (outputs_at u inputs) (its_own which u i are) (spent_kept which inputs u are)

first_some : (test : Output → Bool) (o : Option Output) (xs : List Output) (b : Bool) → o ≡ only_if test o → b ≡ list_any test xs → (is_some o || b) ≡ list_any test (option_to_list o ++ xs)
first_some test None xs b is rest = rest
first_some test (Some x) xs b is rest =
    elim (test x) as (λ t. Some x ≡ (if t then Some x else None) → true ≡ (t || list_any test xs)) [
      | true ↦ λ _. refl
      | false ↦ λ no. absurd (let clash : Some x ≡ None = no in cc)
    ] is

-- where all are watched, one is spent just where one is found
pub some_spent : (which : Which) (inputs : List Input) (u : Utxo) → AreWatched which u → list_any (λ i. is_some (output_at u i)) inputs ≡ list_any (is_watched which) (outputs_at u inputs)
some_spent which [] u are = refl
some_spent which (i ∷ inputs) u are =
    first_some (is_watched which) (output_at u i) (outputs_at u inputs) (list_any (λ (i : Input). is_some (output_at u i)) inputs) (its_own which u i are) (some_spent which inputs u are)

-- ---- whom it concerns

pub same_owners : (which : Which) (t : Transaction) (u w : Utxo) → w ≡ watched_among which u → owners_in which w t ≡ owners_in which u t
same_owners which t u w is = ap (λ (os : List Output). owners_of os ++ owners_of (watched_outputs which t.outputs)) (spent_watched which t.inputs u w is)

any_kept : (test : Output → Bool) (os : List Output) → list_any test os ≡ list_any (λ _. true) (filter test os)
any_kept test [] = refl
any_kept test (o ∷ os) =
    elim (test o) as (λ b. (b || list_any test os) ≡ list_any (λ _. true) (cond b (o ∷ filter test os) (filter test os))) [
      | true ↦ refl
      | false ↦ any_kept test os
    ]

pub same_told : (which : Which) (t : Transaction) (u w : Utxo) → w ≡ watched_among which u → is_told which w t ≡ is_told which u t
same_told which t u w is =
    let test = is_watched which in
    ap (λ (b : Bool). is_all which || (b || list_any test t.outputs))
    (any_kept test (outputs_at w t.inputs) ∙ ap (list_any (λ _. true)) (spent_watched which t.inputs u w is) ∙ sym (any_kept test (outputs_at u t.inputs)))
