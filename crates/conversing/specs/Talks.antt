-- A lane's talk: the lines of a text are answered, one after the other.
use Rattle.std.specs.Prelude.{◌≡◌, ℕ, ⊤, ◌<◌, List, [], ◌∷◌, ◌++◌, length, nat_le, Option, MatchBool, codes}
use Rattle.std.specs.Io.KnownBytes.{Appends}
use Rattle.std.specs.Io.BufRead.{drop_through}
use Rattle.conversing.specs.declared.lane.LaneEnd.{LaneEnd}
use Rattle.conversing.specs.declared.lane.LaneEnd.TheVariants.{ReadFailed, WriteFailed, OutOfMemory}
use Rattle.conversing.specs.declared.lane_line.LaneLine.{LaneLine}
use Rattle.conversing.specs.declared.lane_line.LaneLine.TheVariants.{Whole, Cut}
use Rattle.conversing.specs.Lines.{line_limit, first_line}

-- what a line is told that has too many bytes: an error of the range that JSON-RPC leaves to servers (section 5.1)
abbrev pub too_long_reply : List ℕ
too_long_reply =
    codes "{\"jsonrpc\":\"2.0\",\"error\":{\"code\":-32000,\"message\":\"line too long\"},\"id\":null}\n"

-- a line is answered by the desk, or else told that it is too long
abbrev pub AnswersLine : {A : Type 0} → (A → List ℕ → A → List ℕ → Type 0) → A → List ℕ → A → List ℕ → Type 0
AnswersLine answers before line after reply =
    MatchBool (nat_le (length line) line_limit) (answers before line after reply)
    ((after ≡ before) × (reply ≡ too_long_reply))

-- the same of a line that was read, whole or not
abbrev pub AnswersHeld : {A : Type 0} → (A → List ℕ → A → List ℕ → Type 0)
    → A → LaneLine → List ℕ → A → List ℕ → Type 0
AnswersHeld answers before Whole line after reply = answers before line after reply
AnswersHeld answers before Cut line after reply = (after ≡ before) × (reply ≡ too_long_reply)

-- These lines stand first in the text, and `left` behind them. Each is answered, from what the one before it left, and
-- `out` are the replies, one behind the other.
abbrev pub AnswersLines : {A : Type 0} → (A → List ℕ → A → List ℕ → Type 0)
    → A → List ℕ → List (List ℕ) → A → List ℕ → List ℕ → Type 0
AnswersLines answers before text [] after left out = (left ≡ text) × (after ≡ before) × (out ≡ [])
AnswersLines {A} answers before text (line ∷ lines) after left out =
    (0 < length text) × (line ≡ first_line text) × (mid : A) × (reply : List ℕ) × (rest : List ℕ)
    × AnswersLine answers before line mid reply × AnswersLines answers mid (drop_through 10 text) lines after left rest
    × (out ≡ reply ++ rest)

-- EACH LINE IS ANSWERED, ONCE AND IN ORDER
abbrev pub Talked : {A : Type 0} → (A → List ℕ → A → List ℕ → Type 0)
    → A → List ℕ → A → (old new : Option (List ℕ)) → Type 0
Talked answers before text after old new = (lines : List (List ℕ)) × (out : List ℕ)
    × AnswersLines answers before text lines after [] out × Appends old new out

-- the replies were written, unless a write failed
abbrev pub WroteUnless : LaneEnd → (old new : Option (List ℕ)) → List ℕ → Type 0
WroteUnless WriteFailed old new out = ⊤
WroteUnless ReadFailed old new out = Appends old new out
WroteUnless OutOfMemory old new out = Appends old new out

-- the first lines are
abbrev pub BreaksOff : {A : Type 0} → (A → List ℕ → A → List ℕ → Type 0)
    → LaneEnd → A → List ℕ → A → (old new : Option (List ℕ)) → Type 0
BreaksOff answers why before text after old new = (lines : List (List ℕ)) × (left : List ℕ) × (out : List ℕ)
    × AnswersLines answers before text lines after left out × WroteUnless why old new out
