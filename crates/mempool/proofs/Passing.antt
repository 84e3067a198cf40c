-- Transactions passed through one after the other.
use Rattle.std.proofs.Common.{◌≡◌, ◌≢◌, ℕ, false, List, [], ◌∷◌, ◌++◌, map, Option, Some, None, Contains, refl, sym, ap, subst, ◌∙◌, is_some, inl, inr, append_assoc, append-nil, true≢false}
use Rattle.std.specs.Prelude.{◌⊎◌, if◌then◌else◌}
use Rattle.std.specs.List.{AllByRecursion, IsDistinct}
use Rattle.std.specs.Map.{keys_of, values_of}
use Rattle.std.specs.Arc.{arc_value}
use Rattle.std.specs.declared.alloc.Global.{Global}
use Rattle.std.specs.declared.sync.Arc.{Arc}
use Rattle.std.proofs.lemmas.Slice.Eq.{bytes_eq-Decides}
use Rattle.std.proofs.lemmas.List.Elements.{Contains-push_cases}
use Rattle.ident.specs.Kinds.{TxId}
use Rattle.model.specs.Transaction.{Transaction, transaction_id_of}
use Rattle.model.specs.Signature.{Verifies}
use Rattle.model.specs.Utxo.{Utxo, utxo_after}
use Rattle.model.specs.Rules.{Params, Reason, reason_against}
use Rattle.model.specs.Mempool.{utxo_after_all, passed, IsInMempool}
use Rattle.model.proofs.MempoolPasses.{stays, drops}
use Rattle.mempool.specs.Contents.{Waiting}
use Rattle.mempool.specs.Calls.{with_tx, kept_with, resynced_on}
use Rattle.mempool.proofs.Ids.{is_id, ids_in, nothing_in}

abbrev Shared : Type 0
Shared = Arc Transaction Global

-- no two have one identifier
abbrev pub HaveOwnIds : List Transaction → Type 0
HaveOwnIds [] = Unit {0}
HaveOwnIds (t ∷ ts) = AllByRecursion (λ u. transaction_id_of u ≢ transaction_id_of t) ts × HaveOwnIds ts

-- none of the second has the identifier of one of the first
abbrev pub AreNewTo : List Transaction → List Transaction → Type 0
AreNewTo txs rest = AllByRecursion (λ u. IsInMempool txs u → ⊥) rest

head_id : (a b : List ℕ) (xs ys : List (List ℕ)) → a ∷ xs ≡ b ∷ ys → (a ≡ b) × (xs ≡ ys)
head_id a b xs ys e = (cc, cc)

others_apart : (id : TxId) (t : Transaction) (es : List (TxId × Shared)) → id.bytes ≡ transaction_id_of t
    → ids_in es ≡ map transaction_id_of (map arc_value (values_of es)) → AllByRecursion (λ y. is_id id y ≡ false) (keys_of es)
    → AllByRecursion (λ u. transaction_id_of u ≢ transaction_id_of t) (map arc_value (values_of es))
others_apart id t [] is same apart = tt
others_apart id t (e ∷ es) is same apart =
    let two = head_id e.0.bytes (transaction_id_of (arc_value e.1)) (ids_in es) (map transaction_id_of (map arc_value (values_of es))) same in
    (λ one. true≢false (sym ((bytes_eq-Decides id.bytes e.0.bytes).1 (is ∙ sym one ∙ sym two.0)) ∙ apart.0), others_apart id t es is two.1 apart.1)

-- where the keys differ and each transaction stands at its identifier
pub own_ids : (es : List (TxId × Shared)) → ids_in es ≡ map transaction_id_of (map arc_value (values_of es)) → IsDistinct is_id (keys_of es) → HaveOwnIds (map arc_value (values_of es))
unfolding IsDistinct
own_ids [] same distinct = tt
own_ids (e ∷ es) same distinct =
    let two = head_id e.0.bytes (transaction_id_of (arc_value e.1)) (ids_in es) (map transaction_id_of (map arc_value (values_of es))) same in
    (others_apart e.0 (arc_value e.1) es two.0 two.1 distinct.0, own_ids es two.1 distinct.1)

-- all are new where there is none
pub all_new : (rest : List Transaction) → AreNewTo [] rest
all_new [] = tt
all_new (t ∷ ts) = (nothing_in (transaction_id_of t), all_new ts)

in_longer : (txs : List Transaction) (t u : Transaction) → IsInMempool (txs ++ t ∷ []) u → IsInMempool txs u ⊎ (transaction_id_of t ≡ transaction_id_of u)
in_longer txs t u c = Contains-push_cases (map transaction_id_of txs) (transaction_id_of t) (transaction_id_of u) (subst (λ ids. Contains ids (transaction_id_of u)) (with_last txs) c)
  where
    with_last : (xs : List Transaction) → map transaction_id_of (xs ++ t ∷ []) ≡ map transaction_id_of xs ++ transaction_id_of t ∷ []
    with_last [] = refl
    with_last (x ∷ xs) = ap (λ rest. transaction_id_of x ∷ rest) (with_last xs)

new_to_longer : (txs : List Transaction) (t : Transaction) (rest : List Transaction) → AreNewTo txs rest → AllByRecursion (λ u. transaction_id_of u ≢ transaction_id_of t) rest → AreNewTo (txs ++ t ∷ []) rest
new_to_longer txs t [] new apart = tt
new_to_longer txs t (u ∷ us) new apart = (
  λ c. elim (in_longer txs t u c) as (λ _. ⊥) [
    | inl old ↦ new.0 old
    | inr same ↦ apart.0 (sym same)
  ],
  new_to_longer txs t us new.1 apart.1,
)

module _ (verifies : Verifies) (params : Params) (slot : ℕ) where
  abbrev through : Utxo → List Transaction → List Transaction
  through utxo ts = passed verifies params slot utxo ts

  -- of all transactions those that are kept stay, and of the rest those that stay after them
  pub record IsPartPassed (utxo : Utxo) (all : List Transaction) (kept : Waiting) (rest : List Shared) : Type 0 where
    pub txs : through utxo all ≡ kept.txs ++ through kept.unspent (map arc_value rest)
    pub unspent : utxo_after_all utxo (through utxo all) ≡ utxo_after_all kept.unspent (through kept.unspent (map arc_value rest))
    pub new : AreNewTo kept.txs (map arc_value rest)
    pub own : HaveOwnIds (map arc_value rest)

  pub none_passed : (utxo : Utxo) (kept : Waiting) (es : List (TxId × Shared)) → kept ≡ record { txs = []; unspent = utxo }
      → ids_in es ≡ map transaction_id_of (map arc_value (values_of es)) → IsDistinct is_id (keys_of es) → IsPartPassed utxo (map arc_value (values_of es)) kept (values_of es)
  none_passed utxo kept es is same distinct = subst (λ k. IsPartPassed utxo (map arc_value (values_of es)) k (values_of es)) (sym is) record {
    txs = refl;
    unspent = refl;
    new = all_new (map arc_value (values_of es));
    own = own_ids es same distinct;
  }

  step : (r : Option Reason) (utxo : Utxo) (all : List Transaction) (kept : Waiting) (tx : Shared) (rest : List Shared)
      → reason_against verifies params kept.unspent slot (arc_value tx) ≡ r → IsPartPassed utxo all kept (tx ∷ rest)
      → IsPartPassed utxo all (if is_some r then kept else with_tx kept (arc_value tx)) rest
  step None utxo all kept tx rest e part =
      let one = stays verifies params slot kept.unspent (arc_value tx) (map arc_value rest) e in
      record {
        txs = part.txs ∙ ap (λ ts. kept.txs ++ ts) one ∙ sym (append_assoc kept.txs (arc_value tx ∷ []) (through (utxo_after kept.unspent (arc_value tx)) (map arc_value rest)));
        unspent = part.unspent ∙ ap (utxo_after_all kept.unspent) one;
        new = new_to_longer kept.txs (arc_value tx) (map arc_value rest) part.new.1 part.own.0;
        own = part.own.1;
      }
  step (Some r) utxo all kept tx rest e part =
      let one = drops verifies params slot kept.unspent (arc_value tx) (map arc_value rest) r e in
      record {
        txs = part.txs ∙ ap (λ ts. kept.txs ++ ts) one;
        unspent = part.unspent ∙ ap (utxo_after_all kept.unspent) one;
        new = part.new.1;
        own = part.own.1;
      }

  pub more_passed : (utxo : Utxo) (all : List Transaction) (kept after : Waiting) (tx : Shared) (rest left : List Shared)
      → left ≡ tx ∷ rest → IsPartPassed utxo all kept left → after ≡ kept_with verifies params slot kept (arc_value tx) → IsPartPassed utxo all after rest
  more_passed utxo all kept after tx rest left is part e =
      subst (λ k. IsPartPassed utxo all k rest) (sym e)
      (step (reason_against verifies params kept.unspent slot (arc_value tx)) utxo all kept tx rest refl (subst (IsPartPassed utxo all kept) is part))

  -- the next one is new
  pub next_new : (utxo : Utxo) (all : List Transaction) (kept : Waiting) (tx : Shared) (rest left : List Shared) → left ≡ tx ∷ rest → IsPartPassed utxo all kept left → IsInMempool kept.txs (arc_value tx) → ⊥
  next_new utxo all kept tx rest left is part = (subst (IsPartPassed utxo all kept) is part).new.0

  -- where none is left all were passed
  pub all_passed : (utxo : Utxo) (all : List Transaction) (kept : Waiting) (left : List Shared) → left ≡ [] → IsPartPassed utxo all kept left → kept ≡ resynced_on verifies params slot utxo all
  all_passed utxo all kept left is part =
      let end = subst (IsPartPassed utxo all kept) is part in
      λ i. record { txs = sym (end.txs ∙ append-nil kept.txs) i; unspent = sym end.unspent i }
