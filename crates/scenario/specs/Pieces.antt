-- The lines of a text as they are read, one after the other.
use Rattle.std.specs.Prelude.{◌≡◌, ◌⊎◌, ℕ, List, [], ◌∷◌, ◌++◌, Option, Some, IfSome}
use Rattle.std.specs.Io.{StopsAt}
use Rattle.std.specs.Io.BufRead.{take_through, drop_through}
use Rattle.std.specs.Io.KnownBytes.{Consumes}
use Rattle.scenario.specs.declared.fault.ScenarioFault.{ScenarioFault}
use Rattle.scenario.specs.declared.fault.ScenarioFault.TheVariants.{ReadFailed, OutOfMemory}

-- a piece of one line: none of its bytes but the last is a line feed
abbrev pub IsPiece : List ℕ → Type 0
IsPiece bytes = StopsAt bytes 10

-- Of a text whose bytes are known, the next line was read: what comes up to the next line feed, with it, or all that is
-- left where there is none; so the line is empty at the end of the text. What comes after it is left.
abbrev pub IsNextLine : (old new : Option (List ℕ)) → (line : List ℕ) → Type 0
IsNextLine old new line = IfSome old (λ text. (line ≡ take_through 10 text) × (new ≡ Some (drop_through 10 text)))

-- why reading stopped behind this piece: it failed, or, unless the piece ends with a line feed, memory ran out
abbrev pub IsReadFault : (piece : List ℕ) → ScenarioFault → Type 0
IsReadFault piece why =
    (why ≡ ReadFailed) ⊎ ((why ≡ OutOfMemory) × ((content : List ℕ) → piece ≡ content ++ 10 ∷ [] → ⊥))

-- no line was read: a piece of the next one was, or nothing, and then reading failed or memory ran out
pub record IsNoLine (old new : Option (List ℕ)) (why : ScenarioFault) : Type 0 where
  pub piece : List ℕ
  pub is_piece : IsPiece piece
  pub read : Consumes old new piece
  pub fault : IsReadFault piece why
