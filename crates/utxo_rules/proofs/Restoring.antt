-- How what a transaction changed is undone.
use Rattle.std.proofs.Common.{◌≡◌, ℕ, zero, suc, ◌+◌, ◌<◌, Bool, true, false, cond, not, ◌||◌, List, [], ◌∷◌, ◌++◌, length, map, Option, Some, None, refl, sym, ap, subst, ◌∙◌, arith, is_some}
use Rattle.std.specs.Prelude.{option_to_list}
use Rattle.std.specs.List.{list_all}
use Rattle.std.specs.FinMap as finite
use Rattle.std.specs.Ordering.{eq_by_cmp}
use Rattle.std.specs.Cmp.{IsEquivalence, eq_by_cmp_equiv}
use Rattle.std.proofs.lemmas.Bool.{and_parts}
use Rattle.model.specs.Transaction.{Input, Output, Transaction, input_cmp, transaction_id_of}
use Rattle.model.specs.Utxo.{Utxo, output_at, is_one_of, without, place, pairs_from, new_pairs, with_pairs, utxo_after}
use Rattle.model.specs.Rules.{has_free_places}
use Rattle.model.proofs.Unspent.{inputs_total, same_from, same_to, same_pairs, at_without, at_inserted, after_elsewhere}
use Rattle.utxo_rules.specs.Diffs.{pairs_at, diff_of, undone}

pub or_false : (a b : Bool) → (a || b) ≡ false → (a ≡ false) × (b ≡ false)
or_false true b h = absurd cc
or_false false b h = (refl, h)

-- ---- pairs that are put back

-- what a UTXO has is that of another except for these inputs, and it has nothing where the other hasn't
record IsLacking (utxo now : Utxo) (inputs : List Input) : Type 0 where
  elsewhere : (q : Input) → is_one_of inputs q ≡ false → output_at now q ≡ output_at utxo q
  nothing : (q : Input) → output_at utxo q ≡ None → output_at now q ≡ None

-- an input at which nothing stands
lacks_none : (utxo now : Utxo) (i : Input) (is : List Input) → output_at utxo i ≡ None → IsLacking utxo now (i ∷ is) → IsLacking utxo now is
lacks_none utxo now i is none lacking = record {
  elsewhere = λ q other. elim (eq_by_cmp input_cmp i q) as (λ b. eq_by_cmp input_cmp i q ≡ b → output_at now q ≡ output_at utxo q) [
    | true ↦ λ e.
        let nothing : output_at utxo q ≡ None = subst (λ (x : Input). output_at utxo x ≡ None) (same_from i q e) none in
        lacking.nothing q nothing ∙ sym nothing
    | false ↦ λ e. lacking.elsewhere q (ap (λ (b : Bool). b || is_one_of is q) e ∙ other)
  ] refl;
  nothing = lacking.nothing;
}

-- an input whose output is put back
lacks_less : (utxo now : Utxo) (i : Input) (is : List Input) (o : Output) → output_at utxo i ≡ Some o → IsLacking utxo now (i ∷ is) → IsLacking utxo (finite.insert now i o) is
lacks_less utxo now i is o some lacking = record {
  elsewhere = λ q other. elim (eq_by_cmp input_cmp q i) as (λ b. eq_by_cmp input_cmp q i ≡ b → output_at (finite.insert now i o) q ≡ output_at utxo q) [
    | true ↦ λ e. at_inserted now i o q ∙ ap (λ (b : Bool). cond b (Some o) (output_at now q)) e ∙ sym (here q e)
    | false ↦ λ e.
        at_inserted now i o q ∙ ap (λ (b : Bool). cond b (Some o) (output_at now q)) e
        ∙ lacking.elsewhere q (ap (λ (b : Bool). b || is_one_of is q) (sym (IsEquivalence.symm (eq_by_cmp_equiv inputs_total) q i) ∙ e) ∙ other)
  ] refl;
  nothing = λ q none. elim (eq_by_cmp input_cmp q i) as (λ b. eq_by_cmp input_cmp q i ≡ b → output_at (finite.insert now i o) q ≡ None) [
    | true ↦ λ e. absurd (let both : None ≡ Some o = sym none ∙ here q e in cc)
    | false ↦ λ e. at_inserted now i o q ∙ ap (λ (b : Bool). cond b (Some o) (output_at now q)) e ∙ lacking.nothing q none
  ] refl;
}
  where
    here : (q : Input) → eq_by_cmp input_cmp q i ≡ true → output_at utxo q ≡ Some o
    here q e = subst (λ (x : Input). output_at utxo x ≡ Some o) (sym (same_from q i e)) some

with_spent : (utxo now : Utxo) (inputs : List Input) → IsLacking utxo now inputs → with_pairs (pairs_at utxo inputs) now ≡ utxo
with_spent utxo now [] lacking = same_pairs now utxo (λ q. lacking.elsewhere q refl)
with_spent utxo now (i ∷ is) lacking =
    elim (output_at utxo i) as (λ o. output_at utxo i ≡ o → with_pairs (map (λ x. (i, x)) (option_to_list o) ++ pairs_at utxo is) now ≡ utxo) [
      | None ↦ λ none. with_spent utxo now is (lacks_none utxo now i is none lacking)
      | Some o ↦ λ some. with_spent utxo (finite.insert now i o) is (lacks_less utxo now i is o some lacking)
    ] refl

-- ---- places that were made

not_new : (id : List ℕ) (k : ℕ) (os : List Output) (q : Input) → is_one_of (map (λ p. p.0) (pairs_from id k os)) q ≡ false → (j : ℕ) → j < length os → q ≡ place id (k + j) → ⊥
not_new id k [] q other j lt e = omega (arith, lt)
not_new id k (o ∷ os) q other zero lt e =
    let parts = or_false (eq_by_cmp input_cmp (place id k) q) (is_one_of (map (λ p. p.0) (pairs_from id (suc k) os)) q) other in
    let same : place id k ≡ q = ap (place id) (omega arith) ∙ sym e in
    let yes : eq_by_cmp input_cmp (place id k) q ≡ true = subst (λ (x : Input). eq_by_cmp input_cmp (place id k) x ≡ true) same (same_to (place id k)) in
    let both : true ≡ false = sym yes ∙ parts.0 in absurd cc
not_new id k (o ∷ os) q other (suc j) lt e =
    let parts = or_false (eq_by_cmp input_cmp (place id k) q) (is_one_of (map (λ p. p.0) (pairs_from id (suc k) os)) q) other in
    not_new id (suc k) os q parts.1 j (omega (arith, lt)) (e ∙ ap (place id) (omega arith))

free_place : (utxo : Utxo) (ps : List (Input × Output)) (q : Input) → list_all (λ p. not (is_some (output_at utxo p.0))) ps ≡ true → is_one_of (map (λ p. p.0) ps) q ≡ true → output_at utxo q ≡ None
free_place utxo [] q free one = absurd cc
free_place utxo (p ∷ ps) q free one =
    let parts = and_parts (not (is_some (output_at utxo p.0))) (list_all (λ p. not (is_some (output_at utxo p.0))) ps) free in
    elim (eq_by_cmp input_cmp p.0 q) as (λ b. eq_by_cmp input_cmp p.0 q ≡ b → (b || is_one_of (map (λ p. p.0) ps) q) ≡ true → output_at utxo q ≡ None) [
      | true ↦ λ e one. subst (λ (x : Input). output_at utxo x ≡ None) (same_from p.0 q e) (none (output_at utxo p.0) parts.0)
      | false ↦ λ e one. free_place utxo ps q parts.1 one
    ] refl one
  where
    none : (o : Option Output) → not (is_some o) ≡ true → o ≡ None
    none None h = refl
    none (Some x) h = absurd cc

-- the places of the outputs that a transaction makes
abbrev made_by : Transaction → List Input
made_by t = map (λ p. p.0) (new_pairs t)

-- UNDOING
-- Where its places were free, a transaction that is undone leaves what it was applied to.
pub undone_after : (utxo : Utxo) (t : Transaction) → has_free_places utxo t ≡ true → undone (diff_of utxo t) (utxo_after utxo t) ≡ utxo
undone_after utxo t free =
    with_spent utxo (without (made_by t) (utxo_after utxo t)) t.inputs (record {
      elsewhere = λ q other. elim (is_one_of (made_by t) q) as (λ b. is_one_of (made_by t) q ≡ b → output_at (without (made_by t) (utxo_after utxo t)) q ≡ output_at utxo q) [
        | true ↦ λ e. at q ∙ ap (λ (b : Bool). cond b None (output_at (utxo_after utxo t) q)) e ∙ sym (free_place utxo (new_pairs t) q free e)
        | false ↦ λ e. at q ∙ ap (λ (b : Bool). cond b None (output_at (utxo_after utxo t) q)) e ∙ after q e ∙ ap (λ (b : Bool). cond b None (output_at utxo q)) other
      ] refl;
      nothing = λ q none. elim (is_one_of (made_by t) q) as (λ b. is_one_of (made_by t) q ≡ b → output_at (without (made_by t) (utxo_after utxo t)) q ≡ None) [
        | true ↦ λ e. at q ∙ ap (λ (b : Bool). cond b None (output_at (utxo_after utxo t) q)) e
        | false ↦ λ e.
            at q ∙ ap (λ (b : Bool). cond b None (output_at (utxo_after utxo t) q)) e ∙ after q e
            ∙ either (is_one_of t.inputs q) (output_at utxo q) none
      ] refl;
    })
  where
    at : (q : Input) → output_at (without (made_by t) (utxo_after utxo t)) q ≡ cond (is_one_of (made_by t) q) None (output_at (utxo_after utxo t) q)
    at q = at_without (made_by t) (utxo_after utxo t) q

    after : (q : Input) → is_one_of (made_by t) q ≡ false → output_at (utxo_after utxo t) q ≡ cond (is_one_of t.inputs q) None (output_at utxo q)
    after q e = after_elsewhere utxo t q (λ new. not_new (transaction_id_of t) 0 t.outputs q e new.0 new.1 (new.2 ∙ ap (place (transaction_id_of t)) (omega arith)))

    either : (b : Bool) (o : Option Output) → o ≡ None → cond b None o ≡ None
    either true o none = refl
    either false o none = none

pub undone_to : (before now old : Utxo) (d : _) (t : Transaction) → before ≡ undone d now → d ≡ diff_of old t → now ≡ utxo_after old t → has_free_places old t ≡ true → before ≡ old
undone_to before now old d t is same after free =
    is ∙ ap (λ e. undone e now) same ∙ ap (undone (diff_of old t)) after ∙ undone_after old t free
