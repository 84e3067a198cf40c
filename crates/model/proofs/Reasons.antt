-- The first reason against a transaction: its condition fails, and each condition before it holds.
use Rattle.std.proofs.Common.{◌≡◌, ℕ, suc, ◌<◌, ◌≤◌, Bool, true, false, List, [], ◌∷◌, Contains, Option, Some, None, refl, sym, ap, subst, ◌∙◌, arith, inl, inr}
use Rattle.std.proofs.lemmas.Option.{same_Some}
use Rattle.model.specs.Rules.{Reason, OutsideInterval, NoInputs, TooBig, FeeTooSmall, MissingInput, OutputTooSmall, WrongNetwork, NotBalanced, OutputExists, BadSignature, MissingKeyWitness, MissingScript, ExtraScript, ScriptFails, reason_number, reasons, first_failing}
use Rattle.model.proofs.Lists.{nothing_contained, contains_cases}

-- the numbers of these reasons count on from this one
abbrev pub AreNumbered : ℕ → List Reason → Type 0
AreNumbered n [] = Unit {0}
AreNumbered n (r ∷ rs) = (reason_number r ≡ n) × AreNumbered (suc n) rs

pub all_numbered : AreNumbered 1 reasons
all_numbered = (refl, (refl, (refl, (refl, (refl, (refl, (refl, (refl, (refl, (refl, (refl, (refl, (refl, (refl, tt))))))))))))))

-- each reason is one of them
pub listed : (r : Reason) → Contains reasons r
listed OutsideInterval = (0, omega arith, refl)
listed NoInputs = (1, omega arith, refl)
listed TooBig = (2, omega arith, refl)
listed FeeTooSmall = (3, omega arith, refl)
listed MissingInput = (4, omega arith, refl)
listed OutputTooSmall = (5, omega arith, refl)
listed WrongNetwork = (6, omega arith, refl)
listed NotBalanced = (7, omega arith, refl)
listed OutputExists = (8, omega arith, refl)
listed BadSignature = (9, omega arith, refl)
listed MissingKeyWitness = (10, omega arith, refl)
listed MissingScript = (11, omega arith, refl)
listed ExtraScript = (12, omega arith, refl)
listed ScriptFails = (13, omega arith, refl)

-- a number before those of a list is of none of its members
numbered_from : (n : ℕ) (rs : List Reason) (r : Reason) → AreNumbered n rs → Contains rs r → n ≤ reason_number r
numbered_from n [] r numbered member = absurd (nothing_contained r member)
numbered_from n (x ∷ xs) r numbered member =
    elim (contains_cases x xs r member) [
      | inl here ↦ let is : reason_number x ≡ reason_number r = ap reason_number here in omega (arith, is, numbered.0)
      | inr later ↦ let more : suc n ≤ reason_number r = numbered_from (suc n) xs r numbered.1 later in omega (arith, more)
    ]

module _ (test : Reason → Bool) where
  abbrev next : Bool → Reason → List Reason → Option Reason
  next true x xs = first_failing test xs
  next false x xs = Some x

  step : (b : Bool) (x : Reason) (xs : List Reason) → test x ≡ b → first_failing test (x ∷ xs) ≡ next b x xs
  step true x xs e = rw e refl
  step false x xs e = rw e refl

  pub fails_in : (rs : List Reason) (r : Reason) → first_failing test rs ≡ Some r → test r ≡ false
  fails_in [] r h = absurd cc
  fails_in (x ∷ xs) r h =
      elim (test x) as (λ b. test x ≡ b → test r ≡ false) [
        | true ↦ λ e. fails_in xs r (sym (step true x xs e) ∙ h)
        | false ↦ λ e. subst (λ (y : Reason). test y ≡ false) (same_Some x r (sym (step false x xs e) ∙ h)) e
      ] refl

  -- a member of a lower number comes before it, and its condition holds
  pub holds_before : (n : ℕ) (rs : List Reason) (r other : Reason) → AreNumbered n rs → first_failing test rs ≡ Some r → Contains rs other → reason_number other < reason_number r → test other ≡ true
  holds_before n [] r other numbered h member before = absurd cc
  holds_before n (x ∷ xs) r other numbered h member before =
      elim (test x) as (λ b. test x ≡ b → test other ≡ true) [
        | true ↦ λ e. elim (contains_cases x xs other member) [
          | inl here ↦ subst (λ (y : Reason). test y ≡ true) here e
          | inr later ↦ holds_before (suc n) xs r other numbered.1 (sym (step true x xs e) ∙ h) later before
        ]
        | false ↦ λ e.
            let is : reason_number x ≡ reason_number r = ap reason_number (same_Some x r (sym (step false x xs e) ∙ h)) in
            let from : n ≤ reason_number other = numbered_from n (x ∷ xs) other numbered member in
            absurd (omega (arith, is, from, before, numbered.0))
      ] refl

  pub each_holds : (rs : List Reason) (r : Reason) → first_failing test rs ≡ None → Contains rs r → test r ≡ true
  each_holds [] r h member = absurd (nothing_contained r member)
  each_holds (x ∷ xs) r h member =
      elim (test x) as (λ b. test x ≡ b → test r ≡ true) [
        | true ↦ λ e. elim (contains_cases x xs r member) [
          | inl here ↦ subst (λ (y : Reason). test y ≡ true) here e
          | inr later ↦ each_holds xs r (sym (step true x xs e) ∙ h) later
        ]
        | false ↦ λ e. absurd (let none : Some x ≡ None = sym (step false x xs e) ∙ h in cc)
      ] refl

  pub none_fails : (rs : List Reason) → ((r : Reason) → test r ≡ true) → first_failing test rs ≡ None
  none_fails [] each = refl
  none_fails (x ∷ xs) each = step true x xs (each x) ∙ none_fails xs each

  first_among : (n : ℕ) (rs : List Reason) (r : Reason) → AreNumbered n rs → Contains rs r → test r ≡ false → ((other : Reason) → reason_number other < reason_number r → test other ≡ true) → first_failing test rs ≡ Some r
  first_among n [] r numbered member fails before = absurd (nothing_contained r member)
  first_among n (x ∷ xs) r numbered member fails before =
      elim (contains_cases x xs r member) [
        | inl here ↦ step false x xs (subst (λ (y : Reason). test y ≡ false) (sym here) fails) ∙ ap Some here
        | inr later ↦
            let past : suc n ≤ reason_number r = numbered_from (suc n) xs r numbered.1 later in
            step true x xs (before x (omega (arith, past, numbered.0))) ∙ first_among (suc n) xs r numbered.1 later fails before
      ]

  -- the first reason of all whose condition fails
  pub first_told : (r : Reason) → test r ≡ false → ((other : Reason) → reason_number other < reason_number r → test other ≡ true) → first_failing test reasons ≡ Some r
  first_told r fails before = first_among 1 reasons r all_numbered (listed r) fails before
