-- Sums over the outputs of a UTXO: without spent pairs, with new ones, and after a transaction.
use Rattle.std.proofs.Common.{◌≡◌, ℕ, suc, ◌<◌, ℤ, pos, ◌+ℤ◌, Bool, true, false, cond, not, ◌&&◌, ◌||◌, List, [], ◌∷◌, ◌++◌, map, Option, Some, None, refl, sym, ap, subst, ◌∙◌, arith, is_some}
use Rattle.std.specs.Prelude.{T, option_to_list, flat_map}
use Rattle.std.specs.List.{AllByRecursion, filter, list_all}
use Rattle.std.specs.List.Sorted.{IsStrictlySortedBy}
use Rattle.std.specs.FinMap as finite
use Rattle.std.specs.FinMap.{find, put, is_sorted}
use Rattle.std.specs.FinMap.Entries.{where_key, below_all, by_order, is_sorted-where_key, find-where_key}
use Rattle.std.specs.Ordering.{eq_by_cmp, is_eq, is_lt, ordering_reverse}
use Rattle.std.specs.declared.cmp.Ordering.{Ordering}
use Rattle.std.specs.declared.cmp.Ordering.TheVariants.{Less, Equal, Greater}
use Rattle.std.specs.Cmp.{IsTotalOrder}
use Rattle.std.proofs.lemmas.Bool.{and_parts, and_from}
use Rattle.std.proofs.lemmas.Int.{ints}
use Rattle.model.specs.Value.{Asset, Ada, amount_of}
use Rattle.model.specs.Transaction.{Input, Output, Transaction, input_cmp, transaction_id_of}
use Rattle.model.specs.Utxo.{Utxo, output_at, outputs_of, is_one_of, without, outputs_at, spent_outputs, place, pairs_from, new_pairs, with_pairs, utxo_after, sum_of, coin_of}
use Rattle.model.specs.Rules.{has_free_places}
use Rattle.model.proofs.Unspent.{inputs_total, inputs_same, same_from, apart_from, at_without, at_inserted}

-- ---- lists in the order of their inputs

pub first : (a b : Bool) → T (a && b) → T a
first true b h = tt
first false b h = absurd h

pub second : (a b : Bool) → T (a && b) → T b
second true b h = h
second false b h = absurd h

pub less : (o : Ordering) → T (is_lt o) → o ≡ Less
less Less h = refl
less Equal h = absurd h
less Greater h = absurd h

-- an input below all of a list is not found in it
pub below_none : (q : Input) (es : List (Input × Output)) → T (below_all input_cmp q es) → find input_cmp q es ≡ None
below_none q [] h = refl
below_none q (e ∷ es) h =
    ap (λ (r : Ordering). cond (is_eq r) (Some e.1) (find input_cmp q es)) (less (input_cmp q e.0) (first (is_lt (input_cmp q e.0)) (below_all input_cmp q es) h))
    ∙ below_none q es (second (is_lt (input_cmp q e.0)) (below_all input_cmp q es) h)

-- an input that stands before all of a list is none of them
not_later : (i : Input) (is : List Input) → AllByRecursion (λ j. input_cmp i j ≡ Less) is → is_one_of is i ≡ false
not_later i [] h = refl
not_later i (j ∷ js) h =
    let after : input_cmp j i ≡ Greater = IsTotalOrder.antisymm inputs_total j i ∙ ap ordering_reverse h.0 in
    ap (λ (r : Ordering). is_eq r || is_one_of js i) after ∙ not_later i js h.1

-- ---- filters

filter_all : {X : Type 0} (xs : List X) → filter (λ x. true) xs ≡ xs
filter_all [] = refl
filter_all {X} (x ∷ xs) = ap (λ (ys : List X). x ∷ ys) (filter_all xs)

neither : {X : Type 0} (p : X → Bool) (a b : Bool) (x : X) (l m : List X) → p x ≡ a → l ≡ filter (λ y. not (p y)) m → cond (not (a || b)) (x ∷ l) l ≡ filter (λ y. not (p y)) (cond (not b) (x ∷ m) m)
neither p true true x l m is rest = rest
neither p true false x l m is rest = rw is rest
neither p false true x l m is rest = rest
neither {X} p false false x l m is rest = rw is (ap (λ (ys : List X). x ∷ ys) rest)

filter_neither : {X : Type 0} (p q : X → Bool) (xs : List X) → filter (λ x. not (p x || q x)) xs ≡ filter (λ x. not (p x)) (filter (λ x. not (q x)) xs)
filter_neither p q [] = refl
filter_neither p q (x ∷ xs) = neither p (p x) (q x) x (filter (λ y. not (p y || q y)) xs) (filter (λ y. not (q y)) xs) refl (filter_neither p q xs)

-- ---- sums

-- what these pairs hold of an asset
abbrev pub held : Asset → List (Input × Output) → ℤ
held asset es = sum_of asset (map (λ e. e.1) es)

pub sum_append : (asset : Asset) (xs ys : List Output) → sum_of asset (xs ++ ys) ≡ sum_of asset xs +ℤ sum_of asset ys
sum_append asset [] ys = omega (arith, ints)
sum_append asset (x ∷ xs) ys = let rest = sum_append asset xs ys in rw rest (omega (arith, ints))

-- the sum of ada is that of the coins
pub ada_is_coin : (os : List Output) → sum_of Ada os ≡ pos (coin_of os)
ada_is_coin [] = refl
ada_is_coin (o ∷ os) = ap (λ (z : ℤ). pos o.value.coin +ℤ z) (ada_is_coin os)

module _ (asset : Asset) where
  -- a pair that is put in where none stood
  put_sum : (k : Input) (o : Output) (es : List (Input × Output)) → find input_cmp k es ≡ None → held asset (put input_cmp k o es) ≡ amount_of asset o.value +ℤ held asset es
  put_sum k o [] none = refl
  put_sum k o (e ∷ es) none =
      elim (input_cmp k e.0) as (λ r. input_cmp k e.0 ≡ r → held asset (by_order r ((k, o) ∷ e ∷ es) ((e.0, o) ∷ es) (e ∷ put input_cmp k o es)) ≡ amount_of asset o.value +ℤ held asset (e ∷ es)) [
        | Less ↦ λ p. refl
        | Equal ↦ λ p. absurd (let found : Some e.1 ≡ None = ap (λ (r : Ordering). cond (is_eq r) (Some e.1) (find input_cmp k es)) (sym p) ∙ none in cc)
        | Greater ↦ λ p.
            let rest : held asset (put input_cmp k o es) ≡ amount_of asset o.value +ℤ held asset es =
            put_sum k o es (ap (λ (r : Ordering). cond (is_eq r) (Some e.1) (find input_cmp k es)) (sym p) ∙ none) in
            rw rest (omega (arith, ints))
      ] refl

  inserted_sum : (u : Utxo) (k : Input) (o : Output) → output_at u k ≡ None → sum_of asset (outputs_of (finite.insert u k o)) ≡ amount_of asset o.value +ℤ sum_of asset (outputs_of u)
  inserted_sum u k o none =
      ap (held asset) (finite.entries-insert inputs_total u k o) ∙ put_sum k o (finite.entries u) (sym (finite.get-entries u k) ∙ none)

  -- a pair that is taken out
  without_one : (k : Input) (es : List (Input × Output)) → T (is_sorted input_cmp es)
      → held asset (where_key input_cmp (λ x. not (eq_by_cmp input_cmp k x)) es) +ℤ sum_of asset (option_to_list (find input_cmp k es)) ≡ held asset es
  without_one k [] h = refl
  without_one k (e ∷ es) h =
      let left : List (Input × Output) = where_key input_cmp (λ x. not (eq_by_cmp input_cmp k x)) es in
      let rest : held asset left +ℤ sum_of asset (option_to_list (find input_cmp k es)) ≡ held asset es = without_one k es (second (below_all input_cmp e.0 es) (is_sorted input_cmp es) h) in
      elim (eq_by_cmp input_cmp k e.0) as (λ b. eq_by_cmp input_cmp k e.0 ≡ b
      → held asset (cond (not b) (e ∷ left) left) +ℤ sum_of asset (option_to_list (cond b (Some e.1) (find input_cmp k es))) ≡ amount_of asset e.1.value +ℤ held asset es) [
        | true ↦ λ p.
            let below : T (below_all input_cmp k es) = subst (λ (x : Input). T (below_all input_cmp x es)) (sym (same_from k e.0 p)) (first (below_all input_cmp e.0 es) (is_sorted input_cmp es) h) in
            let alone : held asset left +ℤ pos 0 ≡ held asset es = subst (λ (o : Option Output). held asset left +ℤ sum_of asset (option_to_list o) ≡ held asset es) (below_none k es below) rest in
            omega (arith, ints)
        | false ↦ λ p. omega (arith, ints)
      ] refl

  -- the pairs of several inputs, no two of which are the same
  without_all : (at : Input → Option Output) (es : List (Input × Output)) → T (is_sorted input_cmp es) → ((q : Input) → at q ≡ find input_cmp q es) → (inputs : List Input) → IsStrictlySortedBy input_cmp inputs
      → held asset (where_key input_cmp (λ x. not (is_one_of inputs x)) es) +ℤ sum_of asset (flat_map (λ i. option_to_list (at i)) inputs) ≡ held asset es
  unfolding IsStrictlySortedBy
  without_all at es h says [] rise = ap (λ (left : List (Input × Output)). held asset left +ℤ pos 0) (filter_all es) ∙ omega (arith, ints)
  without_all at es h says (i ∷ is) rise =
      let left : List (Input × Output) = where_key input_cmp (λ x. not (is_one_of is x)) es in
      let split : where_key input_cmp (λ x. not (is_one_of (i ∷ is) x)) es ≡ where_key input_cmp (λ x. not (eq_by_cmp input_cmp i x)) left = filter_neither (λ e. eq_by_cmp input_cmp i e.0) (λ e. is_one_of is e.0) es in
      let found : find input_cmp i left ≡ at i =
      find-where_key input_cmp (λ x. not (is_one_of is x)) i (λ x tied. ap (λ (y : Input). not (is_one_of is y)) (sym (inputs_same i x tied))) es
      ∙ ap (λ (b : Bool). cond (not b) (find input_cmp i es) None) (not_later i is rise.0) ∙ sym (says i) in
      let one = without_one i left (is_sorted-where_key input_cmp (λ x. not (is_one_of is x)) es h) in
      let taken : held asset (where_key input_cmp (λ x. not (eq_by_cmp input_cmp i x)) left) +ℤ sum_of asset (option_to_list (at i)) ≡ held asset left =
      subst (λ (o : Option Output). held asset (where_key input_cmp (λ x. not (eq_by_cmp input_cmp i x)) left) +ℤ sum_of asset (option_to_list o) ≡ held asset left) found one in
      let rest : held asset left +ℤ sum_of asset (flat_map (λ i. option_to_list (at i)) is) ≡ held asset es = without_all at es h says is rise.1 in
      rw (split, sum_append asset (option_to_list (at i)) (flat_map (λ i. option_to_list (at i)) is)) (omega (arith, ints))

pub entries_without : (inputs : List Input) (utxo : Utxo) → finite.entries (without inputs utxo) ≡ where_key input_cmp (λ x. not (is_one_of inputs x)) (finite.entries utxo)
entries_without inputs utxo =
    let p : Input → Bool = λ x. not (is_one_of inputs x) in
    let kept : List (Input × Output) = where_key input_cmp p (finite.entries utxo) in
    let sorted : T (is_sorted input_cmp kept) = is_sorted-where_key input_cmp p (finite.entries utxo) (finite.entries_sorted utxo) in
    let alike : (q x : Input) → input_cmp q x ≡ Equal → p x ≡ p q = λ q x tied. ap p (sym (inputs_same q x tied)) in
    let same : without inputs utxo ≡ finite.from_sorted kept = finite.same_map inputs_total inputs_same (without inputs utxo) (finite.from_sorted kept)
    (λ q. finite.get-retain_keys utxo p q (alike q) ∙ ap (λ (o : Option Output). cond (p q) o None) (finite.get-entries utxo q)
    ∙ sym (finite.get-from_sorted input_cmp kept q sorted ∙ find-where_key input_cmp p q (alike q) (finite.entries utxo))) in
    ap finite.entries same ∙ finite.entries-from_sorted input_cmp kept sorted

-- ---- with the outputs of a transaction

-- nothing stands there
abbrev pub is_free : Utxo → Input × Output → Bool
is_free u p = not (is_some (output_at u p.0))

free_none : (o : Option Output) → not (is_some o) ≡ true → o ≡ None
free_none None h = refl
free_none (Some x) h = absurd cc

-- places past one stay free when that is taken
free_later : (id : List ℕ) (k j : ℕ) (os : List Output) (u : Utxo) (o : Output) → k < j → list_all (is_free u) (pairs_from id j os) ≡ true
    → list_all (is_free (finite.insert u (place id k) o)) (pairs_from id j os) ≡ true
free_later id k j [] u o lt free = refl
free_later id k j (x ∷ xs) u o lt free =
    let parts = and_parts (is_free u (place id j, x)) (list_all (is_free u) (pairs_from id (suc j) xs)) free in
    let apart : place id j ≡ place id k → ⊥ = λ e. let i : j ≡ k = ap (λ (p : Input). p.index) e in omega (arith, i) in
    let here : output_at (finite.insert u (place id k) o) (place id j) ≡ output_at u (place id j) =
    at_inserted u (place id k) o (place id j) ∙ ap (λ (b : Bool). cond b (Some o) (output_at u (place id j))) (apart_from (place id j) (place id k) apart) in
    and_from (is_free (finite.insert u (place id k) o) (place id j, x)) (list_all (is_free (finite.insert u (place id k) o)) (pairs_from id (suc j) xs))
    (ap (λ (q : Option Output). not (is_some q)) here ∙ parts.0) (free_later id k (suc j) xs u o (omega (arith, lt)) parts.1)

-- with new pairs at free places the sum is theirs and that of the others
pub with_sum : (asset : Asset) (id : List ℕ) (k : ℕ) (os : List Output) (u : Utxo) → list_all (is_free u) (pairs_from id k os) ≡ true
    → sum_of asset (outputs_of (with_pairs (pairs_from id k os) u)) ≡ sum_of asset os +ℤ sum_of asset (outputs_of u)
with_sum asset id k [] u free = omega (arith, ints)
with_sum asset id k (o ∷ os) u free =
    let parts = and_parts (is_free u (place id k, o)) (list_all (is_free u) (pairs_from id (suc k) os)) free in
    let one = inserted_sum asset u (place id k) o (free_none (output_at u (place id k)) parts.0) in
    let rest = with_sum asset id (suc k) os (finite.insert u (place id k) o) (free_later id k (suc k) os u o (omega arith) parts.1) in
    rest ∙ ap (λ (z : ℤ). sum_of asset os +ℤ z) one ∙ omega (arith, ints)

stays_free : (b : Bool) (o : Option Output) → not (is_some o) ≡ true → not (is_some (cond b None o)) ≡ true
stays_free true o free = refl
stays_free false o free = free

-- places that are free stay so when pairs are taken out
free_without : (inputs : List Input) (u : Utxo) (ps : List (Input × Output)) → list_all (is_free u) ps ≡ true → list_all (is_free (without inputs u)) ps ≡ true
free_without inputs u [] free = refl
free_without inputs u (p ∷ ps) free =
    let parts = and_parts (is_free u p) (list_all (is_free u) ps) free in
    and_from (is_free (without inputs u) p) (list_all (is_free (without inputs u)) ps)
    (ap (λ (o : Option Output). not (is_some o)) (at_without inputs u p.0) ∙ stays_free (is_one_of inputs p.0) (output_at u p.0) parts.0)
    (free_without inputs u ps parts.1)

-- ---- after a transaction

without_sum : (asset : Asset) (inputs : List Input) (utxo : Utxo) → IsStrictlySortedBy input_cmp inputs
    → sum_of asset (outputs_of (without inputs utxo)) +ℤ sum_of asset (outputs_at utxo inputs) ≡ sum_of asset (outputs_of utxo)
without_sum asset inputs utxo rise =
    ap (λ (es : List (Input × Output)). held asset es +ℤ sum_of asset (outputs_at utxo inputs)) (entries_without inputs utxo)
    ∙ without_all asset (output_at utxo) (finite.entries utxo) (finite.entries_sorted utxo) (finite.get-entries utxo) inputs rise

-- what was spent is gone, and what was made is there
pub after_sum : (asset : Asset) (utxo : Utxo) (t : Transaction) → IsStrictlySortedBy input_cmp t.inputs → has_free_places utxo t ≡ true
    → sum_of asset (outputs_of (utxo_after utxo t)) +ℤ sum_of asset (spent_outputs utxo t) ≡ sum_of asset (outputs_of utxo) +ℤ sum_of asset t.outputs
unfolding utxo_after
after_sum asset utxo t rise free =
    let spent = without_sum asset t.inputs utxo rise in
    let made = with_sum asset (transaction_id_of t) 0 t.outputs (without t.inputs utxo) (free_without t.inputs utxo (new_pairs t) free) in
    omega (arith, ints)
