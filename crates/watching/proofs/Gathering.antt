-- How an index of outputs is made: by their owners, one output after the other, or of the watched ones.
use Rattle.std.proofs.Common.{◌≡◌, Bool, true, false, cond, List, [], ◌∷◌, Some, None, refl, sym, ap, subst, ◌∙◌}
use Rattle.std.specs.Prelude.{T}
use Rattle.std.specs.FinMap as finite
use Rattle.std.specs.FinMap.{find, is_sorted}
use Rattle.std.specs.FinMap.Entries.{below_all}
use Rattle.std.specs.Ordering.{eq_by_cmp}
use Rattle.model.specs.Transaction.{Input, Output, input_cmp, address_bytes}
use Rattle.model.specs.Utxo.{Utxo, output_at, with_pairs}
use Rattle.model.proofs.Unspent.{same_to, at_inserted}
use Rattle.model.proofs.UtxoSums.{second}
use Rattle.watching.specs.Owned.{Owned, owned_at, IsGiven, AreOwned}
use Rattle.watching.specs.Which.{Which, is_watched, watched_pairs, watched_among}
use Rattle.watching.proofs.Owning.{none_owned, more_owned}
use Rattle.watching.proofs.Sifted.{first_apart, put_again}
use Rattle.watching.proofs.Narrowing.{watched_entries}

abbrev Pairs : Type 0
Pairs = List (Input × Output)

-- ---- by their owners

-- the owners of some of the outputs are told, and the others are still to come
pub record ArePartOwned (outputs : Utxo) (owners : Owned) (rest : List (Input × Output)) : Type 0 where
  pub seen : Utxo
  pub owned : AreOwned owners seen
  pub parts : with_pairs rest seen ≡ outputs
  pub sorted : T (is_sorted input_cmp rest)
  pub apart : (q : Input) (x : Output) → find input_cmp q rest ≡ Some x → output_at seen q ≡ None

pub none_gathered : (outputs : Utxo) (owners : Owned) (rest : Pairs) → owners ≡ finite.empty → rest ≡ finite.entries outputs → ArePartOwned outputs owners rest
none_gathered outputs owners rest none all = record {
  seen = finite.empty;
  owned = subst (λ (o : Owned). AreOwned o finite.empty) (sym none) none_owned;
  parts = ap (λ (es : Pairs). with_pairs es finite.empty) all ∙ put_again outputs;
  sorted = subst (λ (es : Pairs). T (is_sorted input_cmp es)) (sym all) (finite.entries_sorted outputs);
  apart = λ q x found. finite.get-empty input_cmp q;
}

still_apart : (seen : Utxo) (e : Input × Output) (rest : Pairs) → T (is_sorted input_cmp (e ∷ rest)) → ((q : Input) (x : Output) → find input_cmp q (e ∷ rest) ≡ Some x → output_at seen q ≡ None)
    → (q : Input) (x : Output) → find input_cmp q rest ≡ Some x → output_at (finite.insert seen e.0 e.1) q ≡ None
still_apart seen e rest sorted apart q x found =
    at_inserted seen e.0 e.1 q ∙
    elim (eq_by_cmp input_cmp q e.0) as (λ t. eq_by_cmp input_cmp q e.0 ≡ t → cond t (Some e.1) (output_at seen q) ≡ None) [
      | true ↦ λ here. absurd (let clash : None ≡ Some x = sym (first_apart q e rest sorted here) ∙ found in cc)
      | false ↦ λ elsewhere. apart q x (ap (λ (t : Bool). cond t (Some e.1) (find input_cmp q rest)) elsewhere ∙ found)
    ] refl

one_more : (outputs : Utxo) (owners new : Owned) (rest : Pairs) (input : Input) (x : Output)
    → IsGiven owners (address_bytes x.address) (finite.insert (owned_at owners (address_bytes x.address)) input x) new → ArePartOwned outputs owners ((input, x) ∷ rest) → ArePartOwned outputs new rest
one_more outputs owners new rest input x given part = record {
  seen = finite.insert part.seen input x;
  owned = more_owned owners new part.seen input x (part.apart input x (ap (λ (t : Bool). cond t (Some x) (find input_cmp input rest)) (same_to input))) part.owned given;
  parts = part.parts;
  sorted = second (below_all input_cmp input rest) (is_sorted input_cmp rest) part.sorted;
  apart = still_apart part.seen (input, x) rest part.sorted part.apart;
}

pub one_gathered : (outputs : Utxo) (owners new : Owned) (left rest : Pairs) (input : Input) (x : Output) → left ≡ (input, x) ∷ rest
    → IsGiven owners (address_bytes x.address) (finite.insert (owned_at owners (address_bytes x.address)) input x) new → ArePartOwned outputs owners left → ArePartOwned outputs new rest
one_gathered outputs owners new left rest input x is given part = one_more outputs owners new rest input x given (subst (ArePartOwned outputs owners) is part)

pub all_gathered : (outputs copy : Utxo) (owners : Owned) (rest : Pairs) → rest ≡ [] → copy ≡ outputs → ArePartOwned outputs owners rest → AreOwned owners copy
all_gathered outputs copy owners rest none same part =
    subst (AreOwned owners) (ap (λ (es : Pairs). with_pairs es part.seen) (sym none) ∙ part.parts ∙ sym same) part.owned

-- ---- the watched ones

-- with the watched ones of those that are still to come the index has all that are watched
abbrev pub ArePartWatched : Which → (outputs now : Utxo) → (rest : List (Input × Output)) → Type 0
ArePartWatched which outputs now rest = with_pairs (watched_pairs which rest) now ≡ watched_among which outputs

pub none_chosen : (which : Which) (outputs now : Utxo) (rest : Pairs) → now ≡ finite.empty → rest ≡ finite.entries outputs → ArePartWatched which outputs now rest
none_chosen which outputs now rest none all =
    ap (with_pairs (watched_pairs which rest)) none ∙ ap (λ (es : Pairs). with_pairs (watched_pairs which es) finite.empty) all
    ∙ ap (λ (es : Pairs). with_pairs es finite.empty) (sym (watched_entries which outputs)) ∙ put_again (watched_among which outputs)

first_chosen : (which : Which) (b : Bool) (e : Input × Output) (rest : Pairs) (now : Utxo) → is_watched which e.1 ≡ b → with_pairs (watched_pairs which (e ∷ rest)) now ≡ with_pairs (cond b (e ∷ watched_pairs which rest) (watched_pairs which rest)) now
first_chosen which b e rest now is = ap (λ (t : Bool). with_pairs (cond t (e ∷ watched_pairs which rest) (watched_pairs which rest)) now) is

pub one_chosen : (which : Which) (outputs now new : Utxo) (left rest : Pairs) (input : Input) (x : Output) → left ≡ (input, x) ∷ rest → is_watched which x ≡ true → new ≡ finite.insert now input x
    → ArePartWatched which outputs now left → ArePartWatched which outputs new rest
one_chosen which outputs now new left rest input x is watched inserted part =
    ap (with_pairs (watched_pairs which rest)) inserted ∙ sym (first_chosen which true (input, x) rest now watched)
    ∙ ap (λ (es : Pairs). with_pairs (watched_pairs which es) now) (sym is) ∙ part

pub one_left_out : (which : Which) (outputs now new : Utxo) (left rest : Pairs) (input : Input) (x : Output) → left ≡ (input, x) ∷ rest → is_watched which x ≡ false → new ≡ now
    → ArePartWatched which outputs now left → ArePartWatched which outputs new rest
one_left_out which outputs now new left rest input x is watched same part =
    ap (with_pairs (watched_pairs which rest)) same ∙ sym (first_chosen which false (input, x) rest now watched)
    ∙ ap (λ (es : Pairs). with_pairs (watched_pairs which es) now) (sym is) ∙ part

pub all_chosen : (which : Which) (outputs now : Utxo) (rest : Pairs) → rest ≡ [] → ArePartWatched which outputs now rest → now ≡ watched_among which outputs
all_chosen which outputs now rest none part = ap (λ (es : Pairs). with_pairs (watched_pairs which es) now) (sym none) ∙ part
