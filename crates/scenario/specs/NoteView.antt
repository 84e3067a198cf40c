-- What the code appends to a line.
use Rattle.std.specs.Prelude.{◌≡◌, ℕ, List, ◌++◌}

-- behind what was there stands a note of this kind
pub record AppendsNote (old new : List ℕ) (IsNote : List ℕ → Type 0) : Type 0 where
  pub note : List ℕ
  pub is_note : IsNote note
  pub behind : new ≡ old ++ note
