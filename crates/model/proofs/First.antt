-- What is the first that applies: at most one is, and how it is found place by place.
use Rattle.std.proofs.Common.{◌≡◌, ℕ, ◌+◌, ◌<◌, sym, ap, subst, ◌∙◌, arith, inl, inr}
use Rattle.std.proofs.lemmas.Bool.{cases_lt}
use Rattle.model.specs.First.{IsFirst}
use Rattle.model.specs.History.{Refusal, refusal_number}
use Rattle.model.specs.Codes.{refusal_at, refusal_back}

-- at most one is the first, where two that apply at one place are one
pub one_first : {R : Type 0} (place : R → ℕ) (Applies : R → Type 0) → ((r q : R) → Applies r → Applies q → place r ≡ place q → r ≡ q) → (r q : R) → IsFirst place Applies r → IsFirst place Applies q → r ≡ q
one_first place Applies apart r q one two = elim (cases_lt (place r) (place q)) [
  | inl less ↦ absurd (two.first r less one.applies)
  | inr up ↦ elim (cases_lt (place q) (place r)) [
    | inl less ↦ absurd (one.first q less two.applies)
    | inr down ↦ apart r q one.applies two.applies (omega (arith, up, down))
  ]
]

-- none of a lower place than this applies
abbrev pub NoneBelow : {R : Type 0} → (R → ℕ) → (R → Type 0) → ℕ → Type 0
NoneBelow {R} place Applies n = (other : R) → place other < n → Applies other → ⊥

-- so none of a lower place than the next, where no two are at one place and the one at this place doesn't apply either
pub none_below_next : {R : Type 0} (place : R → ℕ) (Applies : R → Type 0) → ((r q : R) → place r ≡ place q → r ≡ q) → (r : R) → NoneBelow place Applies (place r) → (Applies r → ⊥) → NoneBelow place Applies (place r + 1)
none_below_next place Applies apart r below not_it other lower applies =
    elim (cases_lt (place other) (place r)) [
      | inl lt ↦ below other lt applies
      | inr le ↦ not_it (subst Applies (apart other r (omega (arith, lower, le))) applies)
    ]

-- none applies at all where no place is this far
pub none_at_all : {R : Type 0} (place : R → ℕ) (Applies : R → Type 0) (n : ℕ) → ((r : R) → place r < n) → NoneBelow place Applies n → (r : R) → Applies r → ⊥
none_at_all place Applies n few below r applies = below r (few r) applies

-- ---- refusals of an arrival

-- a refusal is told by its number
pub one_number : (r q : Refusal) → refusal_number r ≡ refusal_number q → r ≡ q
one_number r q same = sym (refusal_back r) ∙ (ap refusal_at same ∙ refusal_back q)
