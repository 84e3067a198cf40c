-- Where bytes stop being the beginning of a text of some kind.
use Rattle.std.specs.Prelude.{◌≡◌, ℕ, List, [], ◌∷◌, ◌++◌, length}
use Rattle.wellformed.specs.declared.stop.Stop.{Stop}
use Rattle.wellformed.specs.declared.stop.Stop.TheVariants.{Ends, Initial, Argument}

-- with something behind them, which may be nothing, the bytes are such a text
pub record Begins (IsText : List ℕ → Type 0) (bytes : List ℕ) : Type 0 where
  pub rest : List ℕ
  pub is_text : IsText (bytes ++ rest)

-- with one byte more at least they are such a text
pub record BeginsLonger (IsText : List ℕ → Type 0) (bytes : List ℕ) : Type 0 where
  pub next : ℕ
  pub rest : List ℕ
  pub is_text : IsText (bytes ++ next ∷ rest)

-- nothing that begins with the bytes begins with such a text, and they are not the beginning of one
abbrev pub BeginsNone : (List ℕ → Type 0) → List ℕ → Type 0
BeginsNone IsText bytes = (text x y : List ℕ) → IsText text → text ++ x ≡ bytes ++ y → ⊥

-- with the first of the `left` last ones the bytes begin no such text; that they do before is said below
pub record StopsAt (IsText : List ℕ → Type 0) (bytes : List ℕ) (left : ℕ) : Type 0 where
  pub front : List ℕ
  pub byte : ℕ
  pub after : List ℕ
  pub parts : bytes ≡ front ++ byte ∷ after
  pub left_is : left ≡ length (byte ∷ after)
  pub none : BeginsNone IsText (front ++ byte ∷ [])

-- an item is to begin there: a byte 0 may stand there, and a byte 255 may not
pub record StopsAtInitial (IsText : List ℕ → Type 0) (bytes : List ℕ) (left : ℕ) : Type 0 where
  pub stops : StopsAt IsText bytes left
  pub zero_may : Begins IsText (stops.front ++ 0 ∷ [])
  pub top_may_not : BeginsNone IsText (stops.front ++ 255 ∷ [])

-- an argument is to go on there: a byte 255 may stand there
pub record StopsAtArgument (IsText : List ℕ → Type 0) (bytes : List ℕ) (left : ℕ) : Type 0 where
  pub stops : StopsAt IsText bytes left
  pub top_may : Begins IsText (stops.front ++ 255 ∷ [])

-- the bytes stop so
abbrev pub Stops : (List ℕ → Type 0) → List ℕ → Stop → Type 0
Stops IsText bytes Ends = BeginsLonger IsText bytes
Stops IsText bytes (Initial left) = StopsAtInitial IsText bytes left
Stops IsText bytes (Argument left) = StopsAtArgument IsText bytes left
