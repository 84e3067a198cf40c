-- How loops take out and put in what a transaction changed.
use Rattle.std.proofs.Common.{◌≡◌, ℕ, zero, suc, ◌+◌, ◌-◌, ◌<◌, ◌≤◌, Bool, false, cond, ◌||◌, List, [], ◌∷◌, ◌++◌, length, drop, get_or, map, Option, Some, None, option_map, refl, sym, ap, subst, ◌∙◌, arith, append_assoc, append-nil}
use Rattle.std.specs.Prelude.{option_to_list}
use Rattle.std.specs.List.{AllByRecursion}
use Rattle.std.specs.List.Sorted.{IsStrictlySortedBy}
use Rattle.std.specs.FinMap as finite
use Rattle.std.specs.Ordering.{eq_by_cmp, is_eq, ordering_reverse}
use Rattle.std.specs.declared.cmp.Ordering.{Ordering}
use Rattle.std.specs.declared.cmp.Ordering.TheVariants.{Less, Greater}
use Rattle.std.specs.Cmp.{IsTotalOrder}
use Rattle.std.proofs.lemmas.List.{drop_all}
use Rattle.cbor.proofs.ForCallers.{drop_here}
use Rattle.model.specs.Transaction.{Input, Output, Transaction, input_cmp, transaction_id_of}
use Rattle.model.specs.Utxo.{Utxo, output_at, is_one_of, without, place, pairs_from, new_pairs, with_pairs}
use Rattle.model.proofs.Unspent.{inputs_total, without_next, without_none}
use Rattle.tx.specs.View.{input_of, output_of}
use Rattle.tx.specs.declared.input.Input.{Input as CodeInput}
use Rattle.tx.specs.declared.output.Output.{Output as CodeOutput}
use Rattle.std.proofs.lemmas.List.{length-map}
use Rattle.utxo_rules.specs.Diffs.{pairs_at, places_from, diff_of}
use Rattle.utxo_rules.proofs.Pairs.{IsPartWithout, one_without, all_without}
use Rattle.utxo_rules.proofs.Restoring.{or_false}

-- ---- how loops take out and put in

-- without the places that are still to be taken out it is what is asked for
abbrev pub IsPartUnplaced : (id : List ℕ) (count : ℕ) (old now : Utxo) (i : ℕ) → Type 0
IsPartUnplaced id count old now i = without (places_from id i (count - i)) now ≡ without (places_from id 0 count) old

pub none_unplaced : (id : List ℕ) (count : ℕ) (utxo : Utxo) → IsPartUnplaced id count utxo utxo 0
none_unplaced id count utxo = let whole : count - 0 ≡ count = omega arith in ap (λ (n : ℕ). without (places_from id 0 n) utxo) whole

pub one_unplaced : (id : List ℕ) (count : ℕ) (old now new : Utxo) (i : ℕ) → i < count → new ≡ finite.remove now (place id i) → IsPartUnplaced id count old now i → IsPartUnplaced id count old new (i + 1)
one_unplaced id count old now new i lt removed part =
    let left = count - (i + 1) in
    let more : suc left ≡ count - i = omega (arith, lt) in
    let next : i + 1 ≡ suc i = omega arith in
    ap (without (places_from id (i + 1) left)) removed
    ∙ ap (λ (n : ℕ). without (places_from id n left) (finite.remove now (place id i))) next
    ∙ without_next (place id i) (places_from id (suc i) left) now
    ∙ ap (λ (n : ℕ). without (places_from id i n) now) more ∙ part

pub all_unplaced : (id : List ℕ) (count : ℕ) (old now : Utxo) (i : ℕ) → count ≤ i → IsPartUnplaced id count old now i → now ≡ without (places_from id 0 count) old
all_unplaced id count old now i le part =
    let none : 0 ≡ count - i = omega (arith, le) in
    sym (without_none now) ∙ ap (λ (n : ℕ). without (places_from id i n) now) none ∙ part

-- with the pairs that are still to be put in it is what is asked for
abbrev pub IsPartPut : (old now : Utxo) (pairs : List (Input × Output)) (i : ℕ) → Type 0
IsPartPut old now pairs i = with_pairs (drop i pairs) now ≡ with_pairs pairs old

pub one_put : (old now new : Utxo) (pairs : List (Input × Output)) (i : ℕ) (x : Input × Output) → i < length pairs → x ≡ get_or pairs i x → new ≡ finite.insert now x.0 x.1 → IsPartPut old now pairs i → IsPartPut old new pairs (i + 1)
one_put old now new pairs i x lt is inserted part =
    ap (with_pairs (drop (i + 1) pairs)) inserted ∙ ap (λ (ps : List (Input × Output)). with_pairs ps now) (sym (drop_here pairs i x lt is)) ∙ part

pub all_put : (old now : Utxo) (pairs : List (Input × Output)) (i : ℕ) → length pairs ≤ i → IsPartPut old now pairs i → now ≡ with_pairs pairs old
all_put old now pairs i le part = ap (λ (ps : List (Input × Output)). with_pairs ps now) (sym (drop_all i pairs le)) ∙ part

-- ---- how a loop takes out what inputs spend

-- an input that stands before all of a list is none of them
not_later : (i : Input) (is : List Input) → AllByRecursion (λ j. input_cmp i j ≡ Less) is → is_one_of is i ≡ false
not_later i [] h = refl
not_later i (j ∷ js) h =
    let after : input_cmp j i ≡ Greater = IsTotalOrder.antisymm inputs_total j i ∙ ap ordering_reverse h.0 in
    ap (λ (r : Ordering). is_eq r || is_one_of js i) after ∙ not_later i js h.1

first_once : (x : Input) (xs ys : List Input) → ys ≡ x ∷ xs → IsStrictlySortedBy input_cmp ys → is_one_of xs x ≡ false
unfolding IsStrictlySortedBy
first_once x xs ys is rise = let rises : IsStrictlySortedBy input_cmp (x ∷ xs) = subst (IsStrictlySortedBy input_cmp) is rise in not_later x xs rises.0

-- another pair that is taken out changes nothing of what inputs would spend
pairs_removed : (utxo : Utxo) (x : Input) (is : List Input) → is_one_of is x ≡ false → pairs_at (finite.remove utxo x) is ≡ pairs_at utxo is
pairs_removed utxo x [] other = refl
pairs_removed utxo x (i ∷ is) other =
    let parts = or_false (eq_by_cmp input_cmp i x) (is_one_of is x) other in
    let here : output_at (finite.remove utxo x) i ≡ output_at utxo i = finite.get-remove inputs_total utxo x i ∙ ap (λ (b : Bool). cond b None (output_at utxo i)) parts.0 in
    ap (λ (o : Option Output). map (λ o. (i, o)) (option_to_list o) ++ pairs_at (finite.remove utxo x) is) here
    ∙ ap (λ (ps : List (Input × Output)). map (λ o. (i, o)) (option_to_list (output_at utxo i)) ++ ps) (pairs_removed utxo x is parts.1)

-- what was taken out, with what is still to be taken out, is what is asked for
pub record IsPartTaken (old now : Utxo) (taken : List (Input × Output)) (inputs : List CodeInput) (i : ℕ) : Type 0 where
  pub left : IsPartWithout old now inputs i
  pub pairs : taken ++ pairs_at now (map input_of (drop i inputs)) ≡ pairs_at old (map input_of inputs)

pub none_taken : (old : Utxo) (taken : List (Input × Output)) (inputs : List CodeInput) → taken ≡ [] → IsPartTaken old old taken inputs 0
none_taken old taken inputs none = record { left = refl; pairs = ap (λ (ps : List (Input × Output)). ps ++ pairs_at old (map input_of inputs)) none }

rises_from : (i : ℕ) (inputs : List CodeInput) → IsStrictlySortedBy input_cmp (map input_of inputs) → IsStrictlySortedBy input_cmp (map input_of (drop i inputs))
unfolding IsStrictlySortedBy
rises_from zero inputs rise = rise
rises_from (suc i) [] rise = tt
rises_from (suc i) (x ∷ xs) rise = rises_from i xs rise.1

pub one_taken : (old now new : Utxo) (taken more : List (Input × Output)) (inputs : List CodeInput) (i : ℕ) (x : CodeInput) → IsStrictlySortedBy input_cmp (map input_of inputs) → i < length inputs → x ≡ get_or inputs i x
    → new ≡ finite.remove now (input_of x) → more ≡ taken ++ map (λ o. (input_of x, o)) (option_to_list (output_at now (input_of x))) → IsPartTaken old now taken inputs i → IsPartTaken old new more inputs (i + 1)
one_taken old now new taken more inputs i x rise lt is removed more_is part =
    let rest = map input_of (drop (i + 1) inputs) in
    let found = map (λ o. (input_of x, o)) (option_to_list (output_at now (input_of x))) in
    let here : map input_of (drop i inputs) ≡ input_of x ∷ rest = ap (map input_of) (drop_here inputs i x lt is) in
    let once : is_one_of rest (input_of x) ≡ false = first_once (input_of x) rest (map input_of (drop i inputs)) here (rises_from i inputs rise) in
    let later : pairs_at new rest ≡ pairs_at now rest = ap (λ (u : Utxo). pairs_at u rest) removed ∙ pairs_removed now (input_of x) rest once in
    record {
      left = one_without old now new inputs i x lt is removed part.left;
      pairs =
          ap (λ (ps : List (Input × Output)). ps ++ pairs_at new rest) more_is ∙ ap (λ (ps : List (Input × Output)). (taken ++ found) ++ ps) later
          ∙ append_assoc taken found (pairs_at now rest) ∙ ap (λ (is : List Input). taken ++ pairs_at now is) (sym here) ∙ part.pairs;
    }

-- what was found goes behind what was taken out
pub more_some : (x : Input) (r : Option Output) (found : Option (Input × Output)) (p : Input × Output) (taken more : List (Input × Output)) → found ≡ option_map (λ o. (x, o)) r → found ≡ Some p → more ≡ taken ++ p ∷ []
    → more ≡ taken ++ map (λ o. (x, o)) (option_to_list r)
more_some x None found p taken more is some added = absurd cc
more_some x (Some o) found p taken more is some added = let same : p ≡ (x, o) = cc in added ∙ ap (λ (q : Input × Output). taken ++ q ∷ []) same

pub more_none : (x : Input) (r : Option Output) (found : Option (Input × Output)) (taken more : List (Input × Output)) → found ≡ option_map (λ o. (x, o)) r → ((p : Input × Output) → found ≡ Some p → ⊥) → more ≡ taken
    → more ≡ taken ++ map (λ o. (x, o)) (option_to_list r)
more_none x None found taken more is none same = same ∙ sym (append-nil taken)
more_none x (Some o) found taken more is none same = absurd (none (x, o) is)

pub all_taken : (old now : Utxo) (taken : List (Input × Output)) (inputs : List CodeInput) (i : ℕ) → length inputs ≤ i → IsPartTaken old now taken inputs i → (now ≡ without (map input_of inputs) old) × (taken ≡ pairs_at old (map input_of inputs))
all_taken old now taken inputs i le part = (
  all_without old now inputs i le part.left,
  sym (append-nil taken) ∙ ap (λ (xs : List CodeInput). taken ++ pairs_at now (map input_of xs)) (sym (drop_all i inputs le)) ∙ part.pairs,
)

-- ---- the difference of a transaction

-- the places of pairs that are counted from an index on
places : (id : List ℕ) (k : ℕ) (os : List Output) → places_from id k (length os) ≡ map (λ p. p.0) (pairs_from id k os)
places id k [] = refl
places id k (o ∷ os) = ap (λ (ps : List Input). place id k ∷ ps) (places id (suc k) os)

pub places_made : (t : Transaction) (id : List ℕ) (count : ℕ) (os : List Output) → id ≡ transaction_id_of t → os ≡ t.outputs → count ≡ length os → places_from id 0 count ≡ map (λ p. p.0) (new_pairs t)
places_made t id count os is are counted =
    ap (λ (i : List ℕ). places_from i 0 count) is ∙ ap (places_from (transaction_id_of t) 0) (counted ∙ ap length are) ∙ places (transaction_id_of t) 0 t.outputs

pub pairs_spent : (utxo : Utxo) (inputs : List CodeInput) (t : Transaction) (taken : List (Input × Output)) → taken ≡ pairs_at utxo (map input_of inputs) → map input_of inputs ≡ t.inputs → taken ≡ pairs_at utxo t.inputs
pairs_spent utxo inputs t taken is are = is ∙ ap (pairs_at utxo) are

pub the_diff : (utxo : Utxo) (t : Transaction) (taken : List (Input × Output)) (inputs : List CodeInput) (outputs : List CodeOutput) (id : List ℕ) (fee : ℕ) → taken ≡ pairs_at utxo (map input_of inputs) → map input_of inputs ≡ t.inputs
    → id ≡ transaction_id_of t → map output_of outputs ≡ t.outputs → fee ≡ t.fee → record { spent = taken; made = places_from id 0 (length outputs); fee = fee } ≡ diff_of utxo t
the_diff utxo t taken inputs outputs id fee is are named made paid =
    let spent : taken ≡ pairs_at utxo t.inputs = pairs_spent utxo inputs t taken is are in
    let places : places_from id 0 (length outputs) ≡ map (λ p. p.0) (new_pairs t) =
    places_made t id (length outputs) (map output_of outputs) named made (sym (length-map outputs output_of)) in
    λ i. record { spent = spent i; made = places i; fee = paid i }
