-- Passing through the mempool: what stays is valid in order, and stays again.
use Rattle.std.proofs.Common.{◌≡◌, ℕ, suc, ◌≤◌, List, [], ◌∷◌, ◌++◌, length, Option, Some, None, Bool, true, false, refl, sym, ap, ◌∙◌, arith, is_some}
use Rattle.std.specs.Prelude.{if◌then◌else◌}
use Rattle.std.proofs.lemmas.Option.{same_Some}
use Rattle.model.specs.Transaction.{Transaction}
use Rattle.model.specs.Signature.{Verifies}
use Rattle.model.specs.Utxo.{Utxo, utxo_after}
use Rattle.model.specs.Rules.{Params, Reason, reason_against}
use Rattle.model.specs.Ledger.{Ledger, ledger_with, ledger_after}
use Rattle.model.specs.Mempool.{utxo_after_all, passed, picked, fits_in_a_block}
use Rattle.model.proofs.LedgerSteps.{through_after, none_after, None_not_Some}

module _ (verifies : Verifies) (params : Params) (slot : ℕ) where
  abbrev judged : Utxo → Transaction → Option Reason
  judged utxo t = reason_against verifies params utxo slot t

  abbrev through : Utxo → List Transaction → List Transaction
  through utxo ts = passed verifies params slot utxo ts

  pass_step : (r : Option Reason) (utxo : Utxo) (t : Transaction) (ts : List Transaction) → judged utxo t ≡ r
      → through utxo (t ∷ ts) ≡ (if is_some r then through utxo ts else t ∷ through (utxo_after utxo t) ts)
  pass_step r utxo t ts e = ap (λ (o : Option Reason). if is_some o then through utxo ts else t ∷ through (utxo_after utxo t) ts) e

  -- a transaction that stays, and one that is dropped
  pub stays : (utxo : Utxo) (t : Transaction) (ts : List Transaction) → judged utxo t ≡ None → through utxo (t ∷ ts) ≡ t ∷ through (utxo_after utxo t) ts
  stays = pass_step None

  pub drops : (utxo : Utxo) (t : Transaction) (ts : List Transaction) (r : Reason) → judged utxo t ≡ Some r → through utxo (t ∷ ts) ≡ through utxo ts
  drops utxo t ts r e = pass_step (Some r) utxo t ts e

  -- what stays, stays again
  pub twice : (utxo : Utxo) (ts : List Transaction) → through utxo (through utxo ts) ≡ through utxo ts
  twice utxo [] = refl
  twice utxo (t ∷ ts) =
      elim (judged utxo t) as (λ r. judged utxo t ≡ r → through utxo (through utxo (t ∷ ts)) ≡ through utxo (t ∷ ts)) [
        | None ↦ λ e. ap (through utxo) (stays utxo t ts e) ∙ stays utxo t (through (utxo_after utxo t) ts) e ∙ ap (λ rest. t ∷ rest) (twice (utxo_after utxo t) ts) ∙ sym (stays utxo t ts e)
        | Some r ↦ λ e. ap (through utxo) (drops utxo t ts r e) ∙ twice utxo ts ∙ sym (drops utxo t ts r e)
      ] refl

  -- the last of a list is judged on what those that stay before it leave
  pub pass_push : (utxo : Utxo) (ts : List Transaction) (t : Transaction) → through utxo (ts ++ t ∷ []) ≡ through utxo ts ++ through (utxo_after_all utxo (through utxo ts)) (t ∷ [])
  pass_push utxo [] t = refl
  pass_push utxo (x ∷ xs) t =
      elim (judged utxo x) as (λ r. judged utxo x ≡ r → through utxo ((x ∷ xs) ++ t ∷ []) ≡ through utxo (x ∷ xs) ++ through (utxo_after_all utxo (through utxo (x ∷ xs))) (t ∷ [])) [
        | None ↦ λ e. stays utxo x (xs ++ t ∷ []) e ∙ ap (λ rest. x ∷ rest) (pass_push (utxo_after utxo x) xs t)
            ∙ ap (λ some. some ++ through (utxo_after_all utxo some) (t ∷ [])) (sym (stays utxo x xs e))
        | Some r ↦ λ e. drops utxo x (xs ++ t ∷ []) r e ∙ pass_push utxo xs t
            ∙ ap (λ some. some ++ through (utxo_after_all utxo some) (t ∷ [])) (sym (drops utxo x xs r e))
      ] refl

  -- where nothing is dropped, the last of a list stays just where there is no reason against it
  pub put_last : (utxo : Utxo) (ts : List Transaction) (t : Transaction) → through utxo ts ≡ ts
      → through utxo (ts ++ t ∷ []) ≡ ts ++ (if is_some (judged (utxo_after_all utxo ts) t) then [] else t ∷ [])
  put_last utxo ts t e = pass_push utxo ts t ∙ ap (λ some. some ++ through (utxo_after_all utxo some) (t ∷ [])) e

  -- no more stay than there are
  fewer : (utxo : Utxo) (ts : List Transaction) → length (through utxo ts) ≤ length ts
  fewer utxo [] = omega (arith)
  fewer utxo (t ∷ ts) =
      elim (judged utxo t) as (λ r. judged utxo t ≡ r → length (through utxo (t ∷ ts)) ≤ suc (length ts)) [
        | None ↦ λ e. let l = ap length (stays utxo t ts e) in let rest = fewer (utxo_after utxo t) ts in omega (arith, l, rest)
        | Some r ↦ λ e. let l = ap length (drops utxo t ts r e) in let rest = fewer utxo ts in omega (arith, l, rest)
      ] refl

  same_rest : (t : Transaction) (xs ys : List Transaction) → t ∷ xs ≡ t ∷ ys → xs ≡ ys
  same_rest t xs ys e = cc

  -- ---- beside the fold of the rules

  abbrev after : Ledger → List Transaction → Option Ledger
  after ledger ts = ledger_after verifies params slot ledger ts

  -- where nothing is dropped there is a ledger
  pub folds : (ledger : Ledger) (ts : List Transaction) → through ledger.utxo ts ≡ ts
      → (m : Ledger) × (after ledger ts ≡ Some m) × (m.utxo ≡ utxo_after_all ledger.utxo ts)
  folds ledger [] e = (ledger, refl, refl)
  folds ledger (t ∷ ts) same =
      elim (judged ledger.utxo t) as (λ r. judged ledger.utxo t ≡ r → (m : Ledger) × (after ledger (t ∷ ts) ≡ Some m) × (m.utxo ≡ utxo_after_all ledger.utxo (t ∷ ts))) [
        | None ↦ λ e.
            let rest = folds (ledger_with ledger t) ts (same_rest t (through (utxo_after ledger.utxo t) ts) ts (sym (stays ledger.utxo t ts e) ∙ same)) in
            (rest.0, through_after verifies params slot ledger t ts e ∙ rest.1, rest.2)
        | Some r ↦ λ e.
            let l = ap length (sym (drops ledger.utxo t ts r e) ∙ same) in
            let most = fewer ledger.utxo ts in
            absurd (omega (arith, l, most))
      ] refl

  -- and where there is a ledger nothing is dropped
  pub all_stay : (ledger m : Ledger) (ts : List Transaction) → after ledger ts ≡ Some m → through ledger.utxo ts ≡ ts
  all_stay ledger m [] is = refl
  all_stay ledger m (t ∷ ts) is =
      elim (judged ledger.utxo t) as (λ r. judged ledger.utxo t ≡ r → through ledger.utxo (t ∷ ts) ≡ t ∷ ts) [
        | None ↦ λ e. stays ledger.utxo t ts e ∙ ap (λ rest. t ∷ rest) (all_stay (ledger_with ledger t) m ts (sym (through_after verifies params slot ledger t ts e) ∙ is))
        | Some r ↦ λ e. absurd (None_not_Some m (sym (none_after verifies params slot ledger t ts r e) ∙ is))
      ] refl

  after_push : (ledger m : Ledger) (ts : List Transaction) (t : Transaction) → after ledger ts ≡ Some m → judged m.utxo t ≡ None → after ledger (ts ++ t ∷ []) ≡ Some (ledger_with m t)
  after_push ledger m [] t is none = through_after verifies params slot ledger t [] (ap (λ (l : Ledger). judged l.utxo t) (same_Some ledger m is) ∙ none) ∙ ap (λ (l : Ledger). Some (ledger_with l t)) (same_Some ledger m is)
  after_push ledger m (x ∷ xs) t is none =
      elim (judged ledger.utxo x) as (λ r. judged ledger.utxo x ≡ r → after ledger ((x ∷ xs) ++ t ∷ []) ≡ Some (ledger_with m t)) [
        | None ↦ λ e. through_after verifies params slot ledger x (xs ++ t ∷ []) e ∙ after_push (ledger_with ledger x) m xs t (sym (through_after verifies params slot ledger x xs e) ∙ is) none
        | Some r ↦ λ e. absurd (None_not_Some m (sym (none_after verifies params slot ledger x xs r e) ∙ is))
      ] refl

  -- ---- what a forged block takes

  abbrev pick : Utxo → List Transaction → List Transaction → List Transaction
  pick utxo taken ts = picked verifies params slot utxo taken ts

  abbrev has_room : List Transaction → Bool
  has_room ts = fits_in_a_block params ts

  pick_step : (r : Option Reason) (room : Bool) (utxo : Utxo) (taken : List Transaction) (t : Transaction) (ts : List Transaction) → judged utxo t ≡ r → has_room (taken ++ t ∷ []) ≡ room
      → pick utxo taken (t ∷ ts) ≡ (if is_some r then pick utxo taken ts else (if room then pick (utxo_after utxo t) (taken ++ t ∷ []) ts else pick utxo taken ts))
  pick_step r room utxo taken t ts e f =
      ap (λ (o : Option Reason). if is_some o then pick utxo taken ts else (if has_room (taken ++ t ∷ []) then pick (utxo_after utxo t) (taken ++ t ∷ []) ts else pick utxo taken ts)) e
      ∙ ap (λ (b : Bool). if is_some r then pick utxo taken ts else (if b then pick (utxo_after utxo t) (taken ++ t ∷ []) ts else pick utxo taken ts)) f

  picked_after : (ledger m : Ledger) (taken ts : List Transaction) → after ledger taken ≡ Some m → (n : Ledger) × (after ledger (pick m.utxo taken ts) ≡ Some n)
  picked_after ledger m taken [] is = (m, is)
  picked_after ledger m taken (t ∷ ts) is =
      elim (judged m.utxo t) as (λ r. judged m.utxo t ≡ r → (n : Ledger) × (after ledger (pick m.utxo taken (t ∷ ts)) ≡ Some n)) [
        | Some r ↦ λ e.
            let rest = picked_after ledger m taken ts is in
            (rest.0, ap (after ledger) (pick_step (Some r) (has_room (taken ++ t ∷ [])) m.utxo taken t ts e refl) ∙ rest.1)
        | None ↦ λ e.
            elim (has_room (taken ++ t ∷ [])) as (λ room. has_room (taken ++ t ∷ []) ≡ room → (n : Ledger) × (after ledger (pick m.utxo taken (t ∷ ts)) ≡ Some n)) [
              | true ↦ λ f.
                  let rest = picked_after ledger (ledger_with m t) (taken ++ t ∷ []) ts (after_push ledger m taken t is e) in
                  (rest.0, ap (after ledger) (pick_step None true m.utxo taken t ts e f) ∙ rest.1)
              | false ↦ λ f.
                  let rest = picked_after ledger m taken ts is in
                  (rest.0, ap (after ledger) (pick_step None false m.utxo taken t ts e f) ∙ rest.1)
            ] refl
      ] refl

  -- the fold over them has a ledger
  pub picked_folds : (ledger : Ledger) (ts : List Transaction) → (n : Ledger) × (after ledger (pick ledger.utxo [] ts) ≡ Some n)
  picked_folds ledger ts = picked_after ledger ledger [] ts refl

  -- and they stand in a block
  pub picked_fits : (utxo : Utxo) (taken ts : List Transaction) → has_room taken ≡ true → has_room (pick utxo taken ts) ≡ true
  picked_fits utxo taken [] fits = fits
  picked_fits utxo taken (t ∷ ts) fits =
      elim (judged utxo t) as (λ r. judged utxo t ≡ r → has_room (pick utxo taken (t ∷ ts)) ≡ true) [
        | Some r ↦ λ e. ap has_room (pick_step (Some r) (has_room (taken ++ t ∷ [])) utxo taken t ts e refl) ∙ picked_fits utxo taken ts fits
        | None ↦ λ e.
            elim (has_room (taken ++ t ∷ [])) as (λ room. has_room (taken ++ t ∷ []) ≡ room → has_room (pick utxo taken (t ∷ ts)) ≡ true) [
              | true ↦ λ f. ap has_room (pick_step None true utxo taken t ts e f) ∙ picked_fits (utxo_after utxo t) (taken ++ t ∷ []) ts f
              | false ↦ λ f. ap has_room (pick_step None false utxo taken t ts e f) ∙ picked_fits utxo taken ts fits
            ] refl
      ] refl
