-- Outputs whose inputs rise, and what may come after them.
use Rattle.std.specs.Prelude.{◌≡◌, List, [], ◌∷◌, ◌++◌, Option, Some, None}
use Rattle.std.specs.declared.cmp.Ordering.TheVariants.{Less}
use Rattle.model.specs.Transaction.{Input, Output, input_cmp}

-- the last of these outputs stands at this input
pub record EndsAt (pairs : List (Input × Output)) (input : Input) : Type 0 where
  pub before : List (Input × Output)
  pub output : Output
  pub split : pairs ≡ before ++ (input, output) ∷ []

-- it stands at this input, or there is none
abbrev pub IsLast : Option Input → List (Input × Output) → Type 0
IsLast None pairs = pairs ≡ []
IsLast (Some input) pairs = EndsAt pairs input

-- the input does not come after that of the last of these
pub record IsNotAfter (pairs : List (Input × Output)) (input : Input) : Type 0 where
  pub last : Input
  pub ends : EndsAt pairs last
  pub not_after : input_cmp last input ≡ Less → ⊥
