-- What a UTXO has at each input: without spent pairs, with new ones, and after a transaction.
use Rattle.std.proofs.Common.{◌≡◌, ℕ, zero, suc, ◌+◌, ◌<◌, Bool, true, false, cond, not, ◌||◌, List, [], ◌∷◌, length, Contains, Option, Some, None, refl, sym, ap, subst, ◌∙◌, arith, inl, inr}
use Rattle.std.specs.Prelude.{slice_get, option_to_list}
use Rattle.std.specs.FinMap as finite
use Rattle.std.specs.FinMap.{IsAntisymmetric, nat_cmp-IsAntisymmetric, slice_cmp-IsAntisymmetric}
use Rattle.std.specs.Ordering.{eq_by_cmp, is_eq, nat_cmp, ordering_then}
use Rattle.std.specs.declared.cmp.Ordering.{Ordering}
use Rattle.std.specs.declared.cmp.Ordering.TheVariants.{Less, Equal, Greater}
use Rattle.std.specs.Cmp.{IsTotalOrder, IsEquivalence, Equal-is, tied_itself, eq_by_cmp_equiv}
use Rattle.std.specs.Cmp.Lexicographic.{slice_cmp}
use Rattle.std.proofs.lemmas.Bool.{false_from_ne_true, or_cases, or_left, or_right}
use Rattle.std.proofs.lemmas.Cmp.{nat_cmp_total, nat_list_cmp_total, on_total, then_total}
use Rattle.std.proofs.lemmas.List.Elements.{Contains-append_cases, Contains-append_left, Contains-append_right}
use Rattle.model.specs.Transaction.{Input, Output, Transaction, input_cmp, transaction_id_of}
use Rattle.model.specs.Utxo.{Utxo, output_at, HaveSamePairs, is_one_of, without, outputs_at, place, pairs_from, with_pairs, IsNewPlace, utxo_after}
use Rattle.model.proofs.Lists.{nothing_contained, contains_cases, contains_first, contains_later}

-- ---- the order of inputs

pub inputs_total : IsTotalOrder input_cmp
inputs_total = then_total (on_total (λ (i : Input). i.transaction) nat_list_cmp_total) (on_total (λ (i : Input). i.index) nat_cmp_total)

both_equal : (r s : Ordering) → ordering_then r s ≡ Equal → (r ≡ Equal) × (s ≡ Equal)
both_equal Less s e = absurd cc
both_equal Equal s e = (refl, e)
both_equal Greater s e = absurd cc

-- inputs that tie are the same
pub inputs_same : IsAntisymmetric input_cmp
inputs_same x y e =
    let both = both_equal (slice_cmp nat_cmp x.transaction y.transaction) (nat_cmp x.index y.index) e in
    let ids : x.transaction ≡ y.transaction = slice_cmp-IsAntisymmetric nat_cmp-IsAntisymmetric x.transaction y.transaction both.0 in
    let indices : x.index ≡ y.index = nat_cmp-IsAntisymmetric x.index y.index both.1 in
    λ i. record { transaction = ids i; index = indices i }

pub same_from : (a b : Input) → eq_by_cmp input_cmp a b ≡ true → a ≡ b
same_from a b h = inputs_same a b ((Equal-is (input_cmp a b)).0 h)

pub same_to : (a : Input) → eq_by_cmp input_cmp a a ≡ true
same_to a = ap is_eq (tied_itself inputs_total a)

pub apart_from : (a b : Input) → (a ≡ b → ⊥) → eq_by_cmp input_cmp a b ≡ false
apart_from a b apart = false_from_ne_true (eq_by_cmp input_cmp a b) (λ h. apart (same_from a b h))

-- the test of a list of inputs says whether the input stands in it
pub one_of_contains : (inputs : List Input) (q : Input) → is_one_of inputs q ≡ true → Contains inputs q
one_of_contains [] q h = absurd cc
one_of_contains (i ∷ is) q h =
    elim (or_cases (eq_by_cmp input_cmp i q) (is_one_of is q) h) [ inl here ↦ (0, omega arith, same_from i q here) | inr later ↦ contains_later i is q (one_of_contains is q later) ]

pub contains_one_of : (inputs : List Input) (q : Input) → Contains inputs q → is_one_of inputs q ≡ true
contains_one_of [] q member = absurd (nothing_contained q member)
contains_one_of (i ∷ is) q member =
    elim (contains_cases i is q member) [
      | inl here ↦ or_left (eq_by_cmp input_cmp i q) (is_one_of is q) (subst (λ (x : Input). eq_by_cmp input_cmp x q ≡ true) (sym here) (same_to q))
      | inr later ↦ or_right (eq_by_cmp input_cmp i q) (is_one_of is q) (contains_one_of is q later)
    ]

-- UTXOs of the same pairs are the same
pub same_pairs : (a b : Utxo) → HaveSamePairs a b → a ≡ b
same_pairs a b same = finite.same_map inputs_total inputs_same a b same

-- ---- without spent pairs

turned : {A : Type 0} (b : Bool) (x y : A) → cond (not b) x y ≡ cond b y x
turned true x y = refl
turned false x y = refl

pub at_without : (inputs : List Input) (utxo : Utxo) (q : Input) → output_at (without inputs utxo) q ≡ cond (is_one_of inputs q) None (output_at utxo q)
at_without inputs utxo q =
    finite.get-retain_keys utxo (λ x. not (is_one_of inputs x)) q (λ x tied. ap (λ (y : Input). not (is_one_of inputs y)) (sym (inputs_same q x tied)))
    ∙ turned (is_one_of inputs q) (output_at utxo q) None

-- no pair is taken out by no input
pub without_none : (utxo : Utxo) → without [] utxo ≡ utxo
without_none utxo = same_pairs (without [] utxo) utxo (at_without [] utxo)

either_none : {A : Type 0} (a b c : Bool) (o : Option A) → b ≡ c → cond a None (cond b None o) ≡ cond (c || a) None o
either_none true true c o same = rw (sym same) refl
either_none true false c o same = rw (sym same) refl
either_none false true c o same = rw (sym same) refl
either_none false false c o same = rw (sym same) refl

-- pairs may be taken out one by one
pub without_next : (input : Input) (inputs : List Input) (utxo : Utxo) → without inputs (finite.remove utxo input) ≡ without (input ∷ inputs) utxo
without_next input inputs utxo =
    same_pairs (without inputs (finite.remove utxo input)) (without (input ∷ inputs) utxo) (λ q.
    at_without inputs (finite.remove utxo input) q ∙ ap (cond (is_one_of inputs q) None) (finite.get-remove inputs_total utxo input q)
    ∙ either_none (is_one_of inputs q) (eq_by_cmp input_cmp q input) (eq_by_cmp input_cmp input q) (output_at utxo q) (IsEquivalence.symm (eq_by_cmp_equiv inputs_total) q input)
    ∙ sym (at_without (input ∷ inputs) utxo q))

-- ---- with the outputs of a transaction

pub at_inserted : (u : Utxo) (p : Input) (o : Output) (q : Input) → output_at (finite.insert u p o) q ≡ cond (eq_by_cmp input_cmp q p) (Some o) (output_at u q)
at_inserted u p o q = finite.get-insert inputs_total u p o q

-- at a place that is none of theirs
pub at_other : (id : List ℕ) (k : ℕ) (os : List Output) (u : Utxo) (q : Input) → ((j : ℕ) → j < length os → q ≡ place id (k + j) → ⊥)
    → output_at (with_pairs (pairs_from id k os) u) q ≡ output_at u q
at_other id k [] u q elsewhere = refl
at_other id k (o ∷ os) u q elsewhere =
    let first : q ≡ place id k → ⊥ = λ e. elsewhere 0 (omega arith) (e ∙ ap (place id) (omega arith)) in
    at_other id (suc k) os (finite.insert u (place id k) o) q (λ j lt e. elsewhere (suc j) (omega (arith, lt)) (e ∙ ap (place id) (omega arith)))
    ∙ at_inserted u (place id k) o q ∙ ap (λ (b : Bool). cond b (Some o) (output_at u q)) (apart_from q (place id k) first)

-- at one of theirs
pub at_new : (id : List ℕ) (k : ℕ) (os : List Output) (u : Utxo) (j : ℕ) (o : Output) → slice_get os j ≡ Some o
    → output_at (with_pairs (pairs_from id k os) u) (place id (k + j)) ≡ Some o
at_new id k [] u j o h = absurd cc
at_new id k (x ∷ xs) u zero o h =
    let same : place id (k + 0) ≡ place id k = ap (place id) (omega arith) in
    let later : (j : ℕ) → j < length xs → place id k ≡ place id (suc k + j) → ⊥ = λ j lt e. let i : k ≡ suc k + j = ap (λ (p : Input). p.index) e in omega (arith, i) in
    ap (output_at (with_pairs (pairs_from id (suc k) xs) (finite.insert u (place id k) x))) same
    ∙ at_other id (suc k) xs (finite.insert u (place id k) x) (place id k) later
    ∙ at_inserted u (place id k) x (place id k) ∙ ap (λ (b : Bool). cond b (Some x) (output_at u (place id k))) (same_to (place id k)) ∙ h
at_new id k (x ∷ xs) u (suc j) o h =
    ap (λ (n : ℕ). output_at (with_pairs (pairs_from id (suc k) xs) (finite.insert u (place id k) x)) (place id n)) (omega arith)
    ∙ at_new id (suc k) xs (finite.insert u (place id k) x) j o h

-- ---- after a transaction

pub after_new : (utxo : Utxo) (t : Transaction) (index : ℕ) (o : Output) → slice_get t.outputs index ≡ Some o → output_at (utxo_after utxo t) (place (transaction_id_of t) index) ≡ Some o
unfolding utxo_after
after_new utxo t index o h =
    let here : place (transaction_id_of t) index ≡ place (transaction_id_of t) (0 + index) = ap (place (transaction_id_of t)) (omega arith) in
    ap (output_at (with_pairs (pairs_from (transaction_id_of t) 0 t.outputs) (without t.inputs utxo))) here
    ∙ at_new (transaction_id_of t) 0 t.outputs (without t.inputs utxo) index o h

pub after_elsewhere : (utxo : Utxo) (t : Transaction) (q : Input) → (IsNewPlace t q → ⊥) → output_at (utxo_after utxo t) q ≡ cond (is_one_of t.inputs q) None (output_at utxo q)
unfolding utxo_after
after_elsewhere utxo t q elsewhere =
    at_other (transaction_id_of t) 0 t.outputs (without t.inputs utxo) q (λ j lt e. elsewhere (j, lt, e ∙ ap (place (transaction_id_of t)) (omega arith)))
    ∙ at_without t.inputs utxo q

pub after_spent : (utxo : Utxo) (t : Transaction) (q : Input) → Contains t.inputs q → (IsNewPlace t q → ⊥) → output_at (utxo_after utxo t) q ≡ None
after_spent utxo t q spent elsewhere = after_elsewhere utxo t q elsewhere ∙ ap (λ (b : Bool). cond b None (output_at utxo q)) (contains_one_of t.inputs q spent)

pub after_other : (utxo : Utxo) (t : Transaction) (q : Input) → (Contains t.inputs q → ⊥) → (IsNewPlace t q → ⊥) → output_at (utxo_after utxo t) q ≡ output_at utxo q
after_other utxo t q unspent elsewhere =
    after_elsewhere utxo t q elsewhere ∙ ap (λ (b : Bool). cond b None (output_at utxo q)) (false_from_ne_true (is_one_of t.inputs q) (λ h. unspent (one_of_contains t.inputs q h)))

-- ---- what is spent

the_one : (o : Option Output) (x : Output) → Contains (option_to_list o) x → o ≡ Some x
the_one None x member = absurd (nothing_contained x member)
the_one (Some y) x member = elim (contains_cases y [] x member) [ inl is ↦ ap Some is | inr later ↦ absurd (nothing_contained x later) ]

-- an input that would spend the output
abbrev pub IsSpentBy : Utxo → List Input → Output → Type 0
IsSpentBy utxo inputs x = (input : Input) × Contains inputs input × (output_at utxo input ≡ Some x)

pub spent_by : (utxo : Utxo) (inputs : List Input) (x : Output) → Contains (outputs_at utxo inputs) x → IsSpentBy utxo inputs x
spent_by utxo [] x member = absurd (nothing_contained x member)
spent_by utxo (i ∷ is) x member =
    elim (Contains-append_cases (option_to_list (output_at utxo i)) (outputs_at utxo is) x member) [
      | inl here ↦ (i, contains_first i is, the_one (output_at utxo i) x here)
      | inr later ↦ let rest = spent_by utxo is x later in (rest.0, contains_later i is rest.0 rest.1, rest.2)
    ]

pub by_spent : (utxo : Utxo) (inputs : List Input) (x : Output) → IsSpentBy utxo inputs x → Contains (outputs_at utxo inputs) x
by_spent utxo [] x spent = absurd (nothing_contained spent.0 spent.1)
by_spent utxo (i ∷ is) x spent =
    elim (contains_cases i is spent.0 spent.1) [
      | inl here ↦
          let stands : output_at utxo i ≡ Some x = ap (output_at utxo) here ∙ spent.2 in
          Contains-append_left (option_to_list (output_at utxo i)) (outputs_at utxo is) x (subst (λ (o : Option Output). Contains (option_to_list o) x) (sym stands) (contains_first x []))
      | inr later ↦ Contains-append_right (option_to_list (output_at utxo i)) (outputs_at utxo is) x (by_spent utxo is x (spent.0, later, spent.2))
    ]
