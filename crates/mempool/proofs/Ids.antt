-- Transactions at their identifiers.
use Rattle.std.proofs.Common.{◌≡◌, ℕ, ◌+◌, Bool, true, false, cond, List, [], ◌∷◌, ◌++◌, map, Option, Some, None, Contains, refl, sym, ap, subst, ◌∙◌, is_some, nat_eq, inl, inr, arith, true≢false}
use Rattle.std.specs.Bool.{Decides}
use Rattle.std.specs.Cmp.Lexicographic.{pointwise}
use Rattle.std.specs.List.{sum}
use Rattle.std.specs.Map.{lookup, keys_of, values_of}
use Rattle.std.proofs.lemmas.Slice.Eq.{bytes_eq-Decides}
use Rattle.std.proofs.lemmas.List.{map-append}
use Rattle.std.proofs.lemmas.List.Sums.{sum_by_push}
use Rattle.std.proofs.lemmas.List.Elements.{Contains-get_or, Contains-append_right, Contains-append_cases, Contains-push_cases}
use Rattle.std.specs.Arc.{arc_value}
use Rattle.std.specs.declared.alloc.Global.{Global}
use Rattle.std.specs.declared.sync.Arc.{Arc}
use Rattle.indexmap.specs.IndexMap.{insert_entry}
use Rattle.indexmap.proofs.CallerLemmas.{insert_entry-new}
use Rattle.ident.specs.Kinds.{TxId}
use Rattle.model.specs.Transaction.{Transaction, transaction_id_of, size_of}
use Rattle.mempool.specs.Contents.{Waiting}
use Rattle.mempool.specs.HeldWaiting.{waiting_of, IsHeldWaiting}
use Rattle.mempool.specs.declared.waiting.Waiting.TheInside.{Inside}

-- the two are one identifier
abbrev pub is_id : TxId → TxId → Bool
is_id a b = pointwise nat_eq a.bytes b.bytes

pub nothing_in : {X : Type 0} (x : X) → Contains [] x → ⊥
nothing_in x c = let lt = c.1 in absurd (omega (arith, lt))

only_one : {X : Type 0} (y x : X) → Contains (y ∷ []) x → y ≡ x
only_one y x c = elim (Contains-push_cases [] y x c) as (λ _. y ≡ x) [
  | inl none ↦ absurd (nothing_in x none)
  | inr same ↦ same
]

module _ {X : Type 0} where
  abbrev pub ids_in : List (TxId × X) → List (List ℕ)
  ids_in es = map (λ k. k.bytes) (keys_of es)

  -- a look-up finds something just where the identifier is among those of the entries
  found_decides : (id : TxId) (es : List (TxId × X)) → Decides (is_some (lookup (is_id id) es)) (Contains (ids_in es) id.bytes)
  found_decides id [] = (λ t. absurd cc, λ c. absurd (nothing_in id.bytes c))
  found_decides id (e ∷ es) = by (is_id id e.0) refl (found_decides id es)
    where
      by : (b : Bool) → is_id id e.0 ≡ b → Decides (is_some (lookup (is_id id) es)) (Contains (ids_in es) id.bytes)
          → Decides (is_some (lookup (is_id id) (e ∷ es))) (Contains (ids_in (e ∷ es)) id.bytes)
      by true t rest = (
        λ h. subst (Contains (ids_in (e ∷ es))) (sym ((bytes_eq-Decides id.bytes e.0.bytes).0 t)) (Contains-get_or (ids_in (e ∷ es)) 0 [] (omega arith)),
        λ c. ap (λ b. is_some (cond b (Some e.1) (lookup (is_id id) es))) t,
      )
      by false t rest = (
        λ h. Contains-append_right (e.0.bytes ∷ []) (ids_in es) id.bytes (rest.0 (sym (ap (λ b. is_some (cond b (Some e.1) (lookup (is_id id) es))) t) ∙ h)),
        λ c. ap (λ b. is_some (cond b (Some e.1) (lookup (is_id id) es))) t ∙ elim (Contains-append_cases (e.0.bytes ∷ []) (ids_in es) id.bytes c) as (λ _. is_some (lookup (is_id id) es) ≡ true) [
          | inl first ↦ absurd (true≢false (sym ((bytes_eq-Decides id.bytes e.0.bytes).1 (sym (only_one e.0.bytes id.bytes first))) ∙ t))
          | inr later ↦ rest.1 later
        ],
      )

  none_found : (o : Option X) → (is_some o ≡ true → ⊥) → o ≡ None
  none_found None h = refl
  none_found (Some x) h = absurd (h refl)

-- ---- of what waits

module _ {S : Type 0} (w : Inside S) (now : Waiting) (id : TxId) (view : waiting_of w ≡ now) (held : IsHeldWaiting w) where
  ids_are : ids_in w.txs.entries ≡ map transaction_id_of now.txs
  ids_are = held.ids ∙ ap (λ (v : Waiting). map transaction_id_of v.txs) view

  -- whether a transaction of this identifier waits
  pub has_decides : (r : Bool) → r ≡ is_some (lookup (is_id id) w.txs.entries) → Decides r (Contains (map transaction_id_of now.txs) id.bytes)
  has_decides r e =
      subst (λ ids. Decides r (Contains ids id.bytes)) ids_are (subst (λ b. Decides b (Contains (ids_in w.txs.entries) id.bytes)) (sym e) (found_decides id w.txs.entries))

  -- a new identifier stands at no entry
  pub is_fresh : (Contains (map transaction_id_of now.txs) id.bytes → ⊥) → lookup (is_id id) w.txs.entries ≡ None
  is_fresh new = none_found (lookup (is_id id) w.txs.entries) (λ t. new ((has_decides (is_some (lookup (is_id id) w.txs.entries)) refl).0 t))

  -- one that is put at the end, at its identifier
  module _ (tx : Arc Transaction Global) (es : List (TxId × Arc Transaction Global)) (is : id.bytes ≡ transaction_id_of (arc_value tx))
      (new : Contains (map transaction_id_of now.txs) (transaction_id_of (arc_value tx)) → ⊥) (put : es ≡ insert_entry is_id w.txs.entries id tx) where
    last : es ≡ w.txs.entries ++ (id, tx) ∷ []
    last = put ∙ insert_entry-new is_id w.txs id tx (is_fresh (λ c. new (subst (Contains (map transaction_id_of now.txs)) is c)))

    values_last : (xs : List (TxId × Arc Transaction Global)) → map arc_value (values_of (xs ++ (id, tx) ∷ [])) ≡ map arc_value (values_of xs) ++ arc_value tx ∷ []
    values_last [] = refl
    values_last (x ∷ xs) = ap (λ rest. arc_value x.1 ∷ rest) (values_last xs)

    ids_last : (xs : List (TxId × Arc Transaction Global)) → ids_in xs ≡ map transaction_id_of (map arc_value (values_of xs))
        → ids_in (xs ++ (id, tx) ∷ []) ≡ map transaction_id_of (map arc_value (values_of (xs ++ (id, tx) ∷ [])))
    ids_last xs same = keys_last xs ∙ ap (λ ids. ids ++ id.bytes ∷ []) same ∙ ap (λ b. map transaction_id_of (map arc_value (values_of xs)) ++ b ∷ []) is
        ∙ sym (tids_last xs)
      where
        keys_last : (ys : List (TxId × Arc Transaction Global)) → ids_in (ys ++ (id, tx) ∷ []) ≡ ids_in ys ++ id.bytes ∷ []
        keys_last [] = refl
        keys_last (y ∷ ys) = ap (λ rest. y.0.bytes ∷ rest) (keys_last ys)

        tids_last : (ys : List (TxId × Arc Transaction Global)) → map transaction_id_of (map arc_value (values_of (ys ++ (id, tx) ∷ [])))
            ≡ map transaction_id_of (map arc_value (values_of ys)) ++ transaction_id_of (arc_value tx) ∷ []
        tids_last [] = refl
        tids_last (y ∷ ys) = ap (λ rest. transaction_id_of (arc_value y.1) ∷ rest) (tids_last ys)

    pub pushed_txs : map arc_value (values_of es) ≡ now.txs ++ arc_value tx ∷ []
    pushed_txs = ap (λ xs. map arc_value (values_of xs)) last ∙ values_last w.txs.entries ∙ ap (λ (v : Waiting). v.txs ++ arc_value tx ∷ []) view

    pub pushed_ids : ids_in es ≡ map transaction_id_of (map arc_value (values_of es))
    pushed_ids = ap ids_in last ∙ ids_last w.txs.entries held.ids ∙ sym (ap (λ xs. map transaction_id_of (map arc_value (values_of xs))) last)

    -- the bytes of the texts, with those of one more
    pub pushed_bytes : (size more : ℕ) → size ≡ size_of (arc_value tx) → more ≡ w.bytes + size → more ≡ sum (map size_of (map arc_value (values_of es)))
    pushed_bytes size more is added =
        let all = map size_of (map arc_value (values_of w.txs.entries)) in
        let split : map size_of (map arc_value (values_of es)) ≡ all ++ size_of (arc_value tx) ∷ [] =
        ap (λ xs. map size_of (map arc_value (values_of xs))) last ∙ ap (map size_of) (values_last w.txs.entries) ∙ map-append size_of (map arc_value (values_of w.txs.entries)) (arc_value tx ∷ []) in
        let counted : sum (all ++ size_of (arc_value tx) ∷ []) ≡ sum all + size_of (arc_value tx) = sum_by_push (λ x. x) all (size_of (arc_value tx)) in
        added ∙ ap (λ (n : ℕ). n + size) held.bytes ∙ ap (λ (n : ℕ). sum all + n) is ∙ sym (ap sum split ∙ counted)
