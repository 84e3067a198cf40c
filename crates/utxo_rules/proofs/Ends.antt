-- How the parts of a check make its whole.
use Rattle.std.proofs.Common.{◌≡◌, ℕ, Bool, true, false, List, [], ◌∷◌, ◌++◌, drop, map, Option, Some, None, Result, Ok, Err, IfErr, OnOk, refl, sym, ap, subst, ◌∙◌, arith}
use Rattle.std.specs.Prelude.{if◌then◌else◌}
use Rattle.std.specs.List.{AllByRecursion}
use Rattle.model.specs.Signature.{Verifies}
use Rattle.model.specs.Transaction.{Transaction, Input}
use Rattle.model.specs.Utxo.{Utxo, outputs_at, spent_outputs}
use Rattle.model.specs.Balance.{is_balanced}
use Rattle.model.specs.Rules.{Params, Reason, reasons, passes, first_failing, reason_against, has_free_places, keys_needed, scripts_needed}
use Rattle.model.specs.Rules.{OutsideInterval, NoInputs, TooBig, FeeTooSmall, MissingInput, OutputTooSmall, WrongNetwork, NotBalanced, OutputExists, BadSignature, MissingKeyWitness, MissingScript, ExtraScript, ScriptFails}
use Rattle.tx.specs.View.{input_of}
use Rattle.tx.specs.declared.input.Input.{Input as CodeInput}
use Rattle.utxo_rules.specs.declared.check_fault.CheckFault.{CheckFault}
use Rattle.utxo_rules.specs.declared.check_fault.CheckFault.TheVariants.{Refused, OutOfMemory}
use Rattle.utxo_rules.specs.declared.spent.Spent.{Spent}
use Rattle.utxo_rules.specs.Spent.{IsSpent}
use Rattle.utxo_rules.specs.View.{reason_of}
use Rattle.utxo_rules.specs.declared.reason.Reason.{Reason as CodeReason}
use Rattle.utxo_rules.specs.Check.{reason_of_result, early_reasons, first_of_witnesses, first_of_spending, IsFirstOf, IsCheckFault, PassesEarly}

-- ---- what is spent

pub spent_by : (spent : Spent) (utxo : Utxo) (t u : Transaction) (inputs : List CodeInput) → map input_of inputs ≡ u.inputs → u ≡ t → IsSpent spent (outputs_at utxo (map input_of inputs)) → IsSpent spent (spent_outputs utxo t)
spent_by spent utxo t u inputs are same is = subst (λ (is : List Input). IsSpent spent (outputs_at utxo is)) (are ∙ ap (λ (x : Transaction). x.inputs) same) is

-- ---- the reasons 8 to 14

module _ (verifies : Verifies) (utxo : Utxo) (t : Transaction) where
  pub not_balanced : is_balanced utxo t ≡ false → first_of_spending verifies utxo t ≡ Some NotBalanced
  unfolding first_of_spending
  not_balanced h = rw h refl

  pub not_free : is_balanced utxo t ≡ true → has_free_places utxo t ≡ false → first_of_spending verifies utxo t ≡ Some OutputExists
  unfolding first_of_spending
  not_free h f = rw (h, f) refl

  pub to_witnesses : is_balanced utxo t ≡ true → has_free_places utxo t ≡ true → first_of_spending verifies utxo t ≡ first_of_witnesses verifies (keys_needed utxo t) (scripts_needed utxo t) t
  unfolding first_of_spending
  to_witnesses h f = rw (h, f) refl

-- ---- all reasons

-- what is told of a list is told of a longer one
pub early_fails : (test : Reason → Bool) (rs ss : List Reason) (r : Reason) → first_failing test rs ≡ Some r → first_failing test (rs ++ ss) ≡ Some r
early_fails test [] ss r is = absurd cc
early_fails test (x ∷ rs) ss r is = at_first (test x) x (first_failing test rs) (first_failing test (rs ++ ss)) is (early_fails test rs ss r)
  where
    at_first : (b : Bool) (x : Reason) (short long : Option Reason) → (if b then short else Some x) ≡ Some r → (short ≡ Some r → long ≡ Some r) → (if b then long else Some x) ≡ Some r
    at_first true x short long is more = more is
    at_first false x short long is more = is

passed : (b : Bool) (x : Reason) (rest : Option Reason) → (if b then rest else Some x) ≡ None → (b ≡ true) × (rest ≡ None)
passed true x rest is = (refl, is)
passed false x rest is = absurd cc

pub each_passes : (test : Reason → Bool) (rs : List Reason) → first_failing test rs ≡ None → AllByRecursion (λ r. test r ≡ true) rs
each_passes test [] none = tt
each_passes test (x ∷ rs) none = let parts = passed (test x) x (first_failing test rs) none in (parts.0, each_passes test rs parts.1)

pub early_passes : (test : Reason → Bool) (rs ss : List Reason) → first_failing test rs ≡ None → first_failing test (rs ++ ss) ≡ first_failing test ss
early_passes test [] ss none = refl
early_passes test (x ∷ rs) ss none =
    let parts = passed (test x) x (first_failing test rs) none in
    ap (λ (b : Bool). if b then first_failing test (rs ++ ss) else Some x) parts.0 ∙ early_passes test rs ss parts.1

module _ (verifies : Verifies) (params : Params) (utxo : Utxo) (slot : ℕ) (t : Transaction) where
  abbrev late_reasons : List Reason
  late_reasons = drop 7 reasons

  pub told_early : (r : Reason) → first_failing (passes verifies params utxo slot t) early_reasons ≡ Some r → reason_against verifies params utxo slot t ≡ Some r
  unfolding reason_against
  told_early r is = early_fails (passes verifies params utxo slot t) early_reasons late_reasons r is

  pub told_late : first_failing (passes verifies params utxo slot t) early_reasons ≡ None → reason_against verifies params utxo slot t ≡ first_of_spending verifies utxo t
  unfolding reason_against first_of_spending first_of_witnesses
  told_late none = early_passes (passes verifies params utxo slot t) early_reasons late_reasons none

  pub early_pass : first_failing (passes verifies params utxo slot t) early_reasons ≡ None → PassesEarly verifies params utxo slot t
  early_pass none OutsideInterval lt = (each_passes (passes verifies params utxo slot t) early_reasons none).0
  early_pass none NoInputs lt = (each_passes (passes verifies params utxo slot t) early_reasons none).1.0
  early_pass none TooBig lt = (each_passes (passes verifies params utxo slot t) early_reasons none).1.1.0
  early_pass none FeeTooSmall lt = (each_passes (passes verifies params utxo slot t) early_reasons none).1.1.1.0
  early_pass none MissingInput lt = (each_passes (passes verifies params utxo slot t) early_reasons none).1.1.1.1.0
  early_pass none OutputTooSmall lt = (each_passes (passes verifies params utxo slot t) early_reasons none).1.1.1.1.1.0
  early_pass none WrongNetwork lt = (each_passes (passes verifies params utxo slot t) early_reasons none).1.1.1.1.1.1.0
  early_pass none NotBalanced lt = absurd (omega (arith, lt))
  early_pass none OutputExists lt = absurd (omega (arith, lt))
  early_pass none BadSignature lt = absurd (omega (arith, lt))
  early_pass none MissingKeyWitness lt = absurd (omega (arith, lt))
  early_pass none MissingScript lt = absurd (omega (arith, lt))
  early_pass none ExtraScript lt = absurd (omega (arith, lt))
  early_pass none ScriptFails lt = absurd (omega (arith, lt))

  -- where each of them passes none is told
  next_passes : (x : Reason) (rs : List Reason) → passes verifies params utxo slot t x ≡ true → first_failing (passes verifies params utxo slot t) rs ≡ None → first_failing (passes verifies params utxo slot t) (x ∷ rs) ≡ None
  next_passes x rs p none = ap (λ (b : Bool). if b then first_failing (passes verifies params utxo slot t) rs else Some x) p ∙ none

  pub none_early : PassesEarly verifies params utxo slot t → first_failing (passes verifies params utxo slot t) early_reasons ≡ None
  none_early p =
      let from_7 = next_passes WrongNetwork [] (p WrongNetwork (omega arith)) refl in
      let from_6 = next_passes OutputTooSmall (WrongNetwork ∷ []) (p OutputTooSmall (omega arith)) from_7 in
      let from_5 = next_passes MissingInput (OutputTooSmall ∷ WrongNetwork ∷ []) (p MissingInput (omega arith)) from_6 in
      let from_4 = next_passes FeeTooSmall (MissingInput ∷ OutputTooSmall ∷ WrongNetwork ∷ []) (p FeeTooSmall (omega arith)) from_5 in
      let from_3 = next_passes TooBig (FeeTooSmall ∷ MissingInput ∷ OutputTooSmall ∷ WrongNetwork ∷ []) (p TooBig (omega arith)) from_4 in
      let from_2 = next_passes NoInputs (TooBig ∷ FeeTooSmall ∷ MissingInput ∷ OutputTooSmall ∷ WrongNetwork ∷ []) (p NoInputs (omega arith)) from_3 in
      next_passes OutsideInterval (NoInputs ∷ TooBig ∷ FeeTooSmall ∷ MissingInput ∷ OutputTooSmall ∷ WrongNetwork ∷ []) (p OutsideInterval (omega arith)) from_2

  accepts : (r : Result (Unit {0}) CheckFault) → first_failing (passes verifies params utxo slot t) early_reasons ≡ None → IsFirstOf (first_of_spending verifies utxo t) r → OnOk r (reason_against verifies params utxo slot t ≡ None)
  accepts (Ok unit) none is = told_late none ∙ is
  accepts (Err e) none is = tt

  refuses : (r : Result (Unit {0}) CheckFault) → first_failing (passes verifies params utxo slot t) early_reasons ≡ None → IsFirstOf (first_of_spending verifies utxo t) r → IfErr r (IsCheckFault verifies params utxo slot t)
  refuses (Ok unit) none is = tt
  refuses (Err (Refused reason)) none is = told_late none ∙ is
  refuses (Err OutOfMemory) none is = early_pass none

-- ---- the reasons 8 to 14 by themselves

module _ (verifies : Verifies) (utxo : Utxo) (t : Transaction) where
  pub accepted_late : (r : Result (Unit {0}) CheckFault) → IsFirstOf (first_of_spending verifies utxo t) r → OnOk r ((params : Params) (slot : ℕ) → PassesEarly verifies params utxo slot t → reason_against verifies params utxo slot t ≡ None)
  accepted_late (Ok unit) is = λ params slot early. accepts verifies params utxo slot t (Ok unit) (none_early verifies params utxo slot t early) is
  accepted_late (Err fault) is = tt

  pub refused_late : (r : Result (Unit {0}) CheckFault) → IsFirstOf (first_of_spending verifies utxo t) r → IfErr r (λ fault. (params : Params) (slot : ℕ) → PassesEarly verifies params utxo slot t → IsCheckFault verifies params utxo slot t fault)
  refused_late (Ok unit) is = tt
  refused_late (Err fault) is = λ params slot early. refuses verifies params utxo slot t (Err fault) (none_early verifies params utxo slot t early) is

module _ (verifies : Verifies) (params : Params) (utxo : Utxo) (slot : ℕ) (t : Transaction) where
  pub accepted_at : (r : Result (Unit {0}) CheckFault) → PassesEarly verifies params utxo slot t → OnOk r ((params : Params) (slot : ℕ) → PassesEarly verifies params utxo slot t → reason_against verifies params utxo slot t ≡ None) → OnOk r (reason_against verifies params utxo slot t ≡ None)
  accepted_at (Ok unit) early late = late params slot early
  accepted_at (Err fault) early late = tt

  pub refused_at : (r : Result (Unit {0}) CheckFault) → PassesEarly verifies params utxo slot t → IfErr r (λ fault. (params : Params) (slot : ℕ) → PassesEarly verifies params utxo slot t → IsCheckFault verifies params utxo slot t fault) → IfErr r (IsCheckFault verifies params utxo slot t)
  refused_at (Ok unit) early late = tt
  refused_at (Err fault) early late = late params slot early

-- ---- the reasons 1 to 7 by themselves

module _ (params : Params) (utxo : Utxo) (slot : ℕ) (t : Transaction) where
  pub refused_early : (r : Result (Unit {0}) CodeReason) → ((verifies : Verifies) → reason_of_result r ≡ first_failing (passes verifies params utxo slot t) early_reasons) → IfErr r (λ reason. (verifies : Verifies) → reason_against verifies params utxo slot t ≡ Some (reason_of reason))
  refused_early (Ok unit) first = tt
  refused_early (Err reason) first = λ verifies. told_early verifies params utxo slot t (reason_of reason) (sym (first verifies))

  pub passed_early : (r : Result (Unit {0}) CodeReason) → ((verifies : Verifies) → reason_of_result r ≡ first_failing (passes verifies params utxo slot t) early_reasons) → OnOk r ((verifies : Verifies) → PassesEarly verifies params utxo slot t)
  passed_early (Ok unit) first = λ verifies. early_pass verifies params utxo slot t (sym (first verifies))
  passed_early (Err reason) first = tt
