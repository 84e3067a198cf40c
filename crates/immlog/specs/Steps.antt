-- What the steps of the log keep of the disk's moments.
use Rattle.std.specs.Prelude.{◌≡◌, ◌⊎◌, ℕ, ◌+◌, ◌≤◌, List, [], ◌∷◌, ◌++◌, length, take, drop}
use Rattle.std.specs.List.{AllByRecursion}
use Rattle.model.specs.Disk.{Moment, settled, Leaves, HoldsSince, LeavesSince}
use Rattle.model.specs.Log.{IsLogBlock, records, IsClosed, IsLogOf}

-- this beginning of the disk is sure, and nothing in it was written or cut since
pub record IsFixed (front : List ℕ) (m : Moment) : Type 0 where
  pub more : List ℕ
  pub sure : m.sure ≡ front ++ more
  pub behind : AllByRecursion (λ range. length front ≤ range.0) m.touched

-- each beginning that was fixed before a step at this place is so at every moment since
abbrev pub KeepsFixed : ℕ → Moment → List Moment → Moment → List Moment → Type 0
KeepsFixed place m past new_m new_past =
    (front : List ℕ) → IsFixed front m → length front ≤ place → HoldsSince past new_past new_m (IsFixed front)

-- these bytes with another gate at a place
abbrev pub gate_written : ℕ → ℕ → List ℕ → List ℕ
gate_written place gate bytes = take place bytes ++ (gate ∷ []) ++ drop (place + 1) bytes

-- these bytes are sure, and nothing but the gate at this place was written since
pub record IsGateTorn (place : ℕ) (bytes : List ℕ) (m : Moment) : Type 0 where
  pub sure : m.sure ≡ bytes
  pub there : AllByRecursion (λ range. range ≡ (place, place + 1)) m.touched

-- a moment in which a gate is written over these bytes: before it, while it may be torn, or when it is sure
abbrev pub IsGateMoment : ℕ → ℕ → List ℕ → Moment → Type 0
IsGateMoment place gate bytes m =
    (m ≡ settled bytes) ⊎ (IsGateTorn place bytes m ⊎ (m ≡ settled (gate_written place gate bytes)))

-- the records of these blocks begin the bytes, and at this place stands a gate that isn't open, or nothing
pub record IsFound (bytes : List ℕ) (place : ℕ) (blocks : List (List ℕ)) : Type 0 where
  pub rest : List ℕ
  pub text : bytes ≡ records blocks ++ rest
  pub closed : IsClosed rest
  pub sizes : AllByRecursion IsLogBlock blocks
  pub place_is : place ≡ length (records blocks)

-- whatever log a crash would have left before a step, it leaves at every moment since
abbrev pub KeepsLogs : Moment → List Moment → Moment → List Moment → Type 0
KeepsLogs m past new_m new_past =
    (least : ℕ) (blocks : List (List ℕ)) → Leaves (IsLogOf least blocks) m
    → LeavesSince past new_past new_m (IsLogOf least blocks)

-- these blocks are a beginning of those, `least` of them or more
pub record IsBeginningOf (least : ℕ) (blocks found : List (List ℕ)) : Type 0 where
  pub next : List (List ℕ)
  pub begins : blocks ≡ found ++ next
  pub enough : least ≤ length found
