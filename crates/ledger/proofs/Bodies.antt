-- How a loop applies transactions, one after the other.
use Rattle.std.proofs.Common.{◌≡◌, ℕ, suc, ◌+◌, ◌<◌, ◌≤◌, List, length, drop, get_or, Some, None, Result, Ok, Err, refl, sym, ap, ◌∙◌, arith}
use Rattle.std.proofs.lemmas.List.{drop_all}
use Rattle.cbor.proofs.ForCallers.{drop_here}
use Rattle.model.specs.Transaction.{Transaction}
use Rattle.model.specs.Signature.{Verifies}
use Rattle.model.specs.Rules.{Params, Reason}
use Rattle.model.specs.Ledger.{Ledger, reason_in, ledger_with, judged_in_order}
use Rattle.model.proofs.LedgerSteps.{let_through, stopped}

-- what is left to apply decides for all
abbrev pub IsPartApplied : Verifies → Params → (slot : ℕ) → (old now : Ledger) → List Transaction → (i : ℕ) → Type 0
IsPartApplied verifies params slot old now ts i = judged_in_order verifies params slot now i (drop i ts) ≡ judged_in_order verifies params slot old 0 ts

module _ (verifies : Verifies) (params : Params) (slot : ℕ) where
  abbrev in_order : Ledger → ℕ → List Transaction → Result Ledger (ℕ × Reason)
  in_order ledger index ts = judged_in_order verifies params slot ledger index ts

  pub none_applied : (ledger : Ledger) (ts : List Transaction) → IsPartApplied verifies params slot ledger ledger ts 0
  none_applied ledger ts = refl

  pub one_applied : (old now new : Ledger) (ts : List Transaction) (i : ℕ) (t : Transaction) → i < length ts → t ≡ get_or ts i t → reason_in verifies params slot now t ≡ None → new ≡ ledger_with now t
      → IsPartApplied verifies params slot old now ts i → IsPartApplied verifies params slot old new ts (i + 1)
  one_applied old now new ts i t lt is none same part =
      let rest = drop (i + 1) ts in
      let next : i + 1 ≡ suc i = omega arith in
      ap (λ (l : Ledger). in_order l (i + 1) rest) same
      ∙ ap (λ (n : ℕ). in_order (ledger_with now t) n rest) next
      ∙ sym (ap (in_order now i) (drop_here ts i t lt is) ∙ let_through verifies params slot now i t rest none) ∙ part

  pub one_refused : (old now : Ledger) (ts : List Transaction) (i : ℕ) (t : Transaction) (r : Reason) → i < length ts → t ≡ get_or ts i t → reason_in verifies params slot now t ≡ Some r
      → IsPartApplied verifies params slot old now ts i → in_order old 0 ts ≡ Err (i, r)
  one_refused old now ts i t r lt is some part =
      sym part ∙ ap (in_order now i) (drop_here ts i t lt is) ∙ stopped verifies params slot now i t (drop (i + 1) ts) r some

  pub all_applied : (old now : Ledger) (ts : List Transaction) (i : ℕ) → length ts ≤ i → IsPartApplied verifies params slot old now ts i → in_order old 0 ts ≡ Ok now
  all_applied old now ts i le part = sym part ∙ ap (in_order now i) (drop_all i ts le)
