-- Texts that begin others.
use Rattle.std.specs.Prelude.{◌≡◌, ℕ, List, ◌++◌}

-- these texts begin those
pub record Begins (first all : List (List ℕ)) : Type 0 where
  pub later : List (List ℕ)
  pub are : all ≡ first ++ later
