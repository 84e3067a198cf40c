-- The first of what applies, where each has a place in an order: one form for the refusals of an arrival, the faults of
-- a block, the reasons why no block is forged and the faults of a genesis file (this project's own).
use Rattle.std.specs.Prelude.{ℕ, ◌<◌}

-- FIRST THAT APPLIES
-- It applies, and none of a lower place does. So at most one is the first, where two that apply at one place are one:
-- that is `one_first` of proofs/First, on which the laws `one_reply` and `one_answer_to_a_block` rest.
pub record IsFirst {R : Type 0} (place : R → ℕ) (Applies : R → Type 0) (r : R) : Type 0 where
  pub applies : Applies r
  pub first : (other : R) → place other < place r → Applies other → ⊥
