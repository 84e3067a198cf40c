-- How what a search finds explains a reason.
use Rattle.std.proofs.Common.{◌≡◌, ℕ, ◌≤◌, ◌<◌, Bool, true, false, List, [], ◌∷◌, Option, Some, None, Result, Ok, Err, IfOk, IfErr, MatchOption, refl, sym, ap, subst, ◌∙◌, arith}
use Rattle.std.specs.Prelude.{if◌then◌else◌}
use Rattle.std.specs.List.{AllByRecursion}
use Rattle.model.specs.Signature.{Verifies}
use Rattle.model.specs.Transaction.{Transaction}
use Rattle.model.specs.Utxo.{Utxo}
use Rattle.model.specs.Rules.{Params, Reason, reason_number, reasons, passes, first_failing, reason_against}
use Rattle.utxo_rules.specs.declared.reason.Reason.{Reason as CodeReason}
use Rattle.utxo_rules.specs.View.{reason_of}
use Rattle.std.specs.Option.{option_map}
use Rattle.std.proofs.lemmas.Option.{none-some}
use Rattle.utxo_rules.specs.Check.{reason_of_result, early_reasons, PassesEarly}
use Rattle.model.specs.Explaining.{Detail, IsDetail, Explains}
use Rattle.utxo_rules.specs.declared.detail.Detail.{Detail as CodeDetail}
use Rattle.utxo_rules.specs.DetailView.{detail_of, FindsDetail}

pub if_ok : {X E : Type 0} {P R : X → Type 0} (r : Result X E) → ((x : X) → P x → R x) → IfOk r P → IfOk r R
if_ok (Ok x) more is = more x is
if_ok (Err e) more is = tt

-- the first that fails does
told_fails : (test : Reason → Bool) (rs : List Reason) (r : Reason) → first_failing test rs ≡ Some r → test r ≡ false
told_fails test [] r is = absurd cc
told_fails test (x ∷ rs) r is = at_first (test x) refl is (told_fails test rs r)
  where
    at_first : (b : Bool) → test x ≡ b → (if b then first_failing test rs else Some x) ≡ Some r → (first_failing test rs ≡ Some r → test r ≡ false) → test r ≡ false
    at_first true here is more = more is
    at_first false here is more = let same : x ≡ r = cc in subst (λ (y : Reason). test y ≡ false) same here

-- and is one of them
told_among : (test : Reason → Bool) (P : Reason → Type 0) (rs : List Reason) (r : Reason) → AllByRecursion P rs → first_failing test rs ≡ Some r → P r
told_among test P [] r all is = absurd cc
told_among test P (x ∷ rs) r all is = at_first (test x) is (told_among test P rs r all.1)
  where
    at_first : (b : Bool) → (if b then first_failing test rs else Some x) ≡ Some r → (first_failing test rs ≡ Some r → P r) → P r
    at_first true is more = more is
    at_first false is more = let same : x ≡ r = cc in subst P same all.0

module _ (verifies : Verifies) (params : Params) (utxo : Utxo) (slot : ℕ) where
  -- of the same transaction, and of the reason that was looked into
  pub found_as : (t u : Transaction) (r : Reason) (reason : CodeReason) (found : Option Detail) → t ≡ u → reason_of reason ≡ r → FindsDetail verifies params utxo slot t r found → FindsDetail verifies params utxo slot u (reason_of reason) found
  found_as t u r reason found same is finds =
      subst (λ (x : Transaction). FindsDetail verifies params utxo slot x (reason_of reason) found) same
      (subst (λ (x : Reason). FindsDetail verifies params utxo slot t x found) (sym is) finds)

  module _ (t : Transaction) where
    fails : (r : Reason) → reason_against verifies params utxo slot t ≡ Some r → passes verifies params utxo slot t r ≡ false
    unfolding reason_against
    fails r is = told_fails (passes verifies params utxo slot t) reasons r is

    pub explained : (r : Reason) (found : Option Detail) → reason_against verifies params utxo slot t ≡ Some r → FindsDetail verifies params utxo slot t r found → Explains verifies params utxo slot t found
    explained r None is finds = absurd (let both : true ≡ false = sym finds ∙ fails r is in cc)
    explained r (Some detail) is finds = record { reason = is ∙ ap (λ (x : Reason). Some x) (sym finds.0); so = finds.1 }

-- a reason that the first seven told is one of these
pub is_early : (params : Params) (utxo : Utxo) (slot : ℕ) (t : Transaction) (r : Result (Unit {0}) CodeReason)
    → ((verifies : Verifies) → reason_of_result r ≡ first_failing (passes verifies params utxo slot t) early_reasons) → IfErr r (λ reason. reason_number (reason_of reason) < 8)
is_early params utxo slot t (Ok unit) first = tt
is_early params utxo slot t (Err reason) first =
    let none : Verifies = λ key message signature. false in
    told_among (passes none params utxo slot t) (λ y. reason_number y < 8) early_reasons (reason_of reason) (omega arith, (omega arith, (omega arith, (omega arith, (omega arith, (omega arith, (omega arith, tt))))))) (sym (first none))

-- ---- in two parts

module _ (params : Params) (utxo : Utxo) (slot : ℕ) (t : Transaction) where
  -- what is found of the first seven is the detail
  pub early_found : (r : Reason) (found : Option CodeDetail) → ((verifies : Verifies) → reason_against verifies params utxo slot t ≡ Some r)
      → ((verifies : Verifies) → FindsDetail verifies params utxo slot t r (option_map detail_of found))
      → MatchOption found ((verifies : Verifies) → PassesEarly verifies params utxo slot t) (λ detail. (verifies : Verifies) → IsDetail verifies params utxo slot t (detail_of detail))
  early_found r None is finds = λ verifies. absurd (none-some r (sym (explained verifies params utxo slot t r None (is verifies) (finds verifies)) ∙ is verifies))
  early_found r (Some detail) is finds = λ verifies. explained verifies params utxo slot t r (Some (detail_of detail)) (is verifies) (finds verifies)
