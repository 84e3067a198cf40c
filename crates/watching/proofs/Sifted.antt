-- Outputs in the order of their inputs: those of an owner, and all of them put in again.
use Rattle.std.proofs.Common.{◌≡◌, ℕ, Bool, true, false, cond, List, [], ◌∷◌, Option, Some, None, refl, sym, ap, ◌∙◌}
use Rattle.std.specs.Prelude.{T, ◌&&◌, filter, bytes_eq}
use Rattle.std.specs.FinMap as finite
use Rattle.std.specs.FinMap.{find, is_sorted}
use Rattle.std.specs.FinMap.Entries.{below_all, same_entries}
use Rattle.std.specs.Ordering.{eq_by_cmp, is_lt}
use Rattle.model.specs.Transaction.{Input, Output, input_cmp, address_bytes}
use Rattle.model.specs.Utxo.{Utxo, output_at, with_pairs}
use Rattle.model.proofs.Unspent.{inputs_total, inputs_same, same_pairs, same_from, at_inserted}
use Rattle.model.proofs.UtxoSums.{below_none, first, second}
use Rattle.utxo_rules.specs.Entries.{has_address, pairs_with}
use Rattle.watching.specs.Owned.{Owned, owned_at, only_if, only_of, AreOwned}

both : (a b : Bool) → T a → T b → T (a && b)
both true b p q = q
both false b p q = p

below_sifted : (x : Input) (p : Input × Output → Bool) (es : List (Input × Output)) → T (below_all input_cmp x es) → T (below_all input_cmp x (filter p es))
below_sifted x p [] h = tt
below_sifted x p (e ∷ es) h =
    let rest = below_sifted x p es (second (is_lt (input_cmp x e.0)) (below_all input_cmp x es) h) in
    elim (p e) as (λ b. T (below_all input_cmp x (cond b (e ∷ filter p es) (filter p es)))) [
      | true ↦ both (is_lt (input_cmp x e.0)) (below_all input_cmp x (filter p es)) (first (is_lt (input_cmp x e.0)) (below_all input_cmp x es) h) rest
      | false ↦ rest
    ]

pub sorted_sifted : (p : Input × Output → Bool) (es : List (Input × Output)) → T (is_sorted input_cmp es) → T (is_sorted input_cmp (filter p es))
sorted_sifted p [] h = tt
sorted_sifted p (e ∷ es) h =
    let rest = sorted_sifted p es (second (below_all input_cmp e.0 es) (is_sorted input_cmp es) h) in
    elim (p e) as (λ b. T (is_sorted input_cmp (cond b (e ∷ filter p es) (filter p es)))) [
      | true ↦ both (below_all input_cmp e.0 (filter p es)) (is_sorted input_cmp (filter p es)) (below_sifted e.0 p es (first (below_all input_cmp e.0 es) (is_sorted input_cmp es) h)) rest
      | false ↦ rest
    ]

-- the first of a sorted list is none of the others
pub first_apart : (q : Input) (e : Input × Output) (es : List (Input × Output)) → T (is_sorted input_cmp (e ∷ es)) → eq_by_cmp input_cmp q e.0 ≡ true → find input_cmp q es ≡ None
first_apart q e es h here =
    ap (λ (i : Input). find input_cmp i es) (same_from q e.0 here) ∙ below_none e.0 es (first (below_all input_cmp e.0 es) (is_sorted input_cmp es) h)

-- what is found among outputs that pass a test
pub found_sifted : (test : Output → Bool) (q : Input) (es : List (Input × Output)) → T (is_sorted input_cmp es) → find input_cmp q (filter (λ e. test e.1) es) ≡ only_if test (find input_cmp q es)
found_sifted test q [] h = refl
found_sifted test q (e ∷ es) h =
    let rest = found_sifted test q es (second (below_all input_cmp e.0 es) (is_sorted input_cmp es) h) in
    let left = filter (λ (e : Input × Output). test e.1) es in
    elim (eq_by_cmp input_cmp q e.0) as (λ t. eq_by_cmp input_cmp q e.0 ≡ t → find input_cmp q (cond (test e.1) (e ∷ left) left) ≡ only_if test (cond t (Some e.1) (find input_cmp q es))) [
      | true ↦ λ here. elim (test e.1) as (λ b. find input_cmp q (cond b (e ∷ left) left) ≡ cond b (Some e.1) None) [
        | true ↦ ap (λ (t : Bool). cond t (Some e.1) (find input_cmp q left)) here
        | false ↦ rest ∙ ap (only_if test) (first_apart q e es h here)
      ]
      | false ↦ λ elsewhere. elim (test e.1) as (λ b. find input_cmp q (cond b (e ∷ left) left) ≡ only_if test (find input_cmp q es)) [
        | true ↦ ap (λ (t : Bool). cond t (Some e.1) (find input_cmp q left)) elsewhere ∙ rest
        | false ↦ rest
      ]
    ] refl

-- an owner's outputs, in their order
pub owner_entries : (owned : Owned) (all : Utxo) (owner : List ℕ) → AreOwned owned all → finite.entries (owned_at owned owner) ≡ pairs_with owner (finite.entries all)
owner_entries owned all owner are =
    let mine = owned_at owned owner in
    let es = finite.entries all in
    same_entries input_cmp inputs_total inputs_same (finite.entries mine) (pairs_with owner es) (finite.entries_sorted mine) (sorted_sifted (has_address owner) es (finite.entries_sorted all))
    (λ q. sym (finite.get-entries mine q) ∙ are owner q ∙ ap (only_of owner) (finite.get-entries all q) ∙ sym (found_sifted (λ o. bytes_eq (address_bytes o.address) owner) q es (finite.entries_sorted all)))

-- ---- outputs that are put in, one after the other

abbrev or_else : Option Output → Option Output → Option Output
or_else None o = o
or_else (Some x) o = Some x

first_stays : (t : Bool) (x : Output) (found old : Option Output) → (t ≡ true → found ≡ None) → or_else found (cond t (Some x) old) ≡ or_else (cond t (Some x) found) old
first_stays true x found old apart = ap (λ (o : Option Output). or_else o (Some x)) (apart refl)
first_stays false x found old apart = refl

at_all : (es : List (Input × Output)) (u : Utxo) (q : Input) → T (is_sorted input_cmp es) → output_at (with_pairs es u) q ≡ or_else (find input_cmp q es) (output_at u q)
at_all [] u q h = refl
at_all (e ∷ es) u q h =
    at_all es (finite.insert u e.0 e.1) q (second (below_all input_cmp e.0 es) (is_sorted input_cmp es) h)
    ∙ ap (λ (o : Option Output). or_else (find input_cmp q es) o) (at_inserted u e.0 e.1 q)
    ∙ first_stays (eq_by_cmp input_cmp q e.0) e.1 (find input_cmp q es) (output_at u q) (first_apart q e es h)

or_nothing : (o : Option Output) → or_else o None ≡ o
or_nothing None = refl
or_nothing (Some x) = refl

pub put_again : (outputs : Utxo) → with_pairs (finite.entries outputs) finite.empty ≡ outputs
put_again outputs = same_pairs (with_pairs (finite.entries outputs) finite.empty) outputs (λ q.
    at_all (finite.entries outputs) finite.empty q (finite.entries_sorted outputs)
    ∙ ap (λ (o : Option Output). or_else (find input_cmp q (finite.entries outputs)) o) (finite.get-empty input_cmp q)
    ∙ or_nothing (find input_cmp q (finite.entries outputs)) ∙ sym (finite.get-entries outputs q))
