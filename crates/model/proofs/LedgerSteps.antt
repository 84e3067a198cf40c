-- How the ledger grows by transactions and by blocks, and that it neither makes nor loses ada.
use Rattle.std.proofs.Common.{◌≡◌, ℕ, suc, ◌+◌, List, [], ◌∷◌, ◌++◌, Option, Some, None, Result, Ok, Err, refl, sym, ap, ◌∙◌, arith}
use Rattle.std.specs.Prelude.{option_and_then}
use Rattle.std.specs.Option.{option_map_or}
use Rattle.std.specs.Result.{result_ok, result_err}
use Rattle.std.specs.List.{AllByRecursion}
use Rattle.std.proofs.lemmas.Option.{same_Some}
use Rattle.model.specs.Transaction.{Transaction, IsTransaction}
use Rattle.model.specs.Signature.{Verifies}
use Rattle.model.specs.Utxo.{outputs_of, coin_of}
use Rattle.model.specs.Rules.{Params, Reason}
use Rattle.model.specs.Genesis.{supply_of}
use Rattle.model.specs.Block.{Block, IsBlock}
use Rattle.model.specs.Ledger.{Network, Ledger, opening_ledger, ledger_with, reason_in, judged_in_order, ledger_after, first_refused, ledger_after_block, ledger_from, ledger_of}
use Rattle.model.proofs.Conserved.{accepted_conserves}
use Rattle.model.proofs.OpeningOutputs.{opening_holds}

pub None_not_Some : {X : Type 0} (x : X) → None ≡ Some x → ⊥
None_not_Some x e = cc

-- what has a value has no error, and the other way round
no_error : {X E : Type 0} (x : X) (result : Result X E) → result_ok result ≡ Some x → result_err result ≡ None
no_error x (Ok y) is = refl
no_error x (Err e) is = absurd (None_not_Some x is)

some_value : {X E : Type 0} (result : Result X E) → result_err result ≡ None → (x : X) × (result_ok result ≡ Some x)
some_value (Ok x) none = (x, refl)
some_value (Err e) none = absurd (None_not_Some e (sym none))

-- ---- transactions

module _ (verifies : Verifies) (params : Params) (slot : ℕ) where
  abbrev judged : Ledger → Transaction → Option Reason
  judged ledger t = reason_in verifies params slot ledger t

  abbrev in_order : Ledger → ℕ → List Transaction → Result Ledger (ℕ × Reason)
  in_order ledger index ts = judged_in_order verifies params slot ledger index ts

  abbrev after : Ledger → List Transaction → Option Ledger
  after ledger ts = ledger_after verifies params slot ledger ts

  step : (r : Option Reason) (ledger : Ledger) (index : ℕ) (t : Transaction) (ts : List Transaction) → judged ledger t ≡ r
      → in_order ledger index (t ∷ ts) ≡ option_map_or (λ reason. Err (index, reason)) r (in_order (ledger_with ledger t) (suc index) ts)
  step r ledger index t ts e = ap (λ (o : Option Reason). option_map_or (λ reason. Err (index, reason)) o (in_order (ledger_with ledger t) (suc index) ts)) e

  -- a transaction that is let through
  pub let_through : (ledger : Ledger) (index : ℕ) (t : Transaction) (ts : List Transaction) → judged ledger t ≡ None → in_order ledger index (t ∷ ts) ≡ in_order (ledger_with ledger t) (suc index) ts
  let_through = step None

  -- and one that is not
  pub stopped : (ledger : Ledger) (index : ℕ) (t : Transaction) (ts : List Transaction) (r : Reason) → judged ledger t ≡ Some r → in_order ledger index (t ∷ ts) ≡ Err (index, r)
  stopped ledger index t ts r e = step (Some r) ledger index t ts e

  -- from wherever their places are counted, the ledger is the same
  same_after : (ledger : Ledger) (i j : ℕ) (ts : List Transaction) → result_ok (in_order ledger i ts) ≡ result_ok (in_order ledger j ts)
  same_after ledger i j [] = refl
  same_after ledger i j (t ∷ ts) =
      elim (judged ledger t) as (λ r. judged ledger t ≡ r → result_ok (in_order ledger i (t ∷ ts)) ≡ result_ok (in_order ledger j (t ∷ ts))) [
        | None ↦ λ e. ap result_ok (let_through ledger i t ts e) ∙ same_after (ledger_with ledger t) (suc i) (suc j) ts ∙ sym (ap result_ok (let_through ledger j t ts e))
        | Some r ↦ λ e. ap result_ok (stopped ledger i t ts r e) ∙ sym (ap result_ok (stopped ledger j t ts r e))
      ] refl

  pub through_after : (ledger : Ledger) (t : Transaction) (ts : List Transaction) → judged ledger t ≡ None → after ledger (t ∷ ts) ≡ after (ledger_with ledger t) ts
  through_after ledger t ts none = ap result_ok (let_through ledger 0 t ts none) ∙ same_after (ledger_with ledger t) 1 0 ts

  pub none_after : (ledger : Ledger) (t : Transaction) (ts : List Transaction) (r : Reason) → judged ledger t ≡ Some r → after ledger (t ∷ ts) ≡ None
  none_after ledger t ts r some = ap result_ok (stopped ledger 0 t ts r some)

  -- where there is a ledger after them, none is refused
  pub none_refused : (ledger : Ledger) (index : ℕ) (ts : List Transaction) (m : Ledger) → after ledger ts ≡ Some m → first_refused verifies params slot ledger index ts ≡ None
  none_refused ledger index ts m is = no_error m (in_order ledger index ts) (same_after ledger index 0 ts ∙ is)

  -- and where none is, there is one
  pub some_after : (ledger : Ledger) (index : ℕ) (ts : List Transaction) → first_refused verifies params slot ledger index ts ≡ None → (m : Ledger) × (after ledger ts ≡ Some m)
  some_after ledger index ts none =
      let found = some_value (in_order ledger index ts) none in
      (found.0, same_after ledger 0 index ts ∙ found.1)

  -- ada is neither made nor lost
  pub kept_by_transactions : (ledger : Ledger) (ts : List Transaction) (m : Ledger) → AllByRecursion IsTransaction ts → after ledger ts ≡ Some m
      → coin_of (outputs_of m.utxo) + m.fees ≡ coin_of (outputs_of ledger.utxo) + ledger.fees
  kept_by_transactions ledger [] m shapes is = ap (λ (l : Ledger). coin_of (outputs_of l.utxo) + l.fees) (sym (same_Some ledger m is))
  kept_by_transactions ledger (t ∷ ts) m shapes is =
      elim (judged ledger t) as (λ r. judged ledger t ≡ r → coin_of (outputs_of m.utxo) + m.fees ≡ coin_of (outputs_of ledger.utxo) + ledger.fees) [
        | None ↦ λ e.
            let first = accepted_conserves verifies params ledger.utxo slot t shapes.0 e in
            let rest = kept_by_transactions (ledger_with ledger t) ts m shapes.1 (sym (through_after ledger t ts e) ∙ is) in
            omega (arith, first, rest)
        | Some r ↦ λ e. absurd (None_not_Some m (sym (none_after ledger t ts r e) ∙ is))
      ] refl

-- ---- blocks

module _ (network : Network) where
  with_last : (ledger : Option Ledger) → option_and_then (λ m. ledger_from network m []) ledger ≡ ledger
  with_last None = refl
  with_last (Some m) = refl

  -- one more block
  pub ledger_push : (ledger : Ledger) (chain : List Block) (b : Block)
      → ledger_from network ledger (chain ++ b ∷ []) ≡ option_and_then (λ m. ledger_after_block network m b) (ledger_from network ledger chain)
  ledger_push ledger [] b = with_last (ledger_after_block network ledger b)
  ledger_push ledger (x ∷ xs) b = past (λ m. ledger_push m xs b) (ledger_after_block network ledger x)
    where
      past : ((m : Ledger) → ledger_from network m (xs ++ b ∷ []) ≡ option_and_then (λ m. ledger_after_block network m b) (ledger_from network m xs))
          → (o : Option Ledger) → option_and_then (λ m. ledger_from network m (xs ++ b ∷ [])) o ≡ option_and_then (λ m. ledger_after_block network m b) (option_and_then (λ m. ledger_from network m xs) o)
      past each None = refl
      past each (Some m) = each m

  kept_by_blocks : (ledger : Ledger) (chain : List Block) (m : Ledger) → AllByRecursion IsBlock chain → ledger_from network ledger chain ≡ Some m
      → coin_of (outputs_of m.utxo) + m.fees ≡ coin_of (outputs_of ledger.utxo) + ledger.fees
  kept_by_blocks ledger [] m shapes is = ap (λ (l : Ledger). coin_of (outputs_of l.utxo) + l.fees) (sym (same_Some ledger m is))
  kept_by_blocks ledger (x ∷ xs) m shapes is =
      elim (ledger_after_block network ledger x) as (λ o. ledger_after_block network ledger x ≡ o → coin_of (outputs_of m.utxo) + m.fees ≡ coin_of (outputs_of ledger.utxo) + ledger.fees) [
        | None ↦ λ e. absurd (None_not_Some m (sym (ap (option_and_then (λ l. ledger_from network l xs)) e) ∙ is))
        | Some l ↦ λ e.
            kept_by_blocks l xs m shapes.1 (sym (ap (option_and_then (λ k. ledger_from network k xs)) e) ∙ is)
            ∙ kept_by_transactions network.verifies network.genesis.params x.header.slot ledger x.transactions l shapes.0.transactions e
      ] refl

  -- the unspent outputs and the fees of a chain are the supply
  pub supply_kept : (chain : List Block) (m : Ledger) → AllByRecursion IsBlock chain → ledger_of network chain ≡ Some m → coin_of (outputs_of m.utxo) + m.fees ≡ supply_of network.genesis
  supply_kept chain m shapes is =
      let all = kept_by_blocks (opening_ledger network.genesis) chain m shapes is in
      let opening = opening_holds network.genesis in
      omega (arith, all, opening)
