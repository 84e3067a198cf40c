-- A DISK AND A CRASH (this project's own): what may be left of a disk's bytes where everything stops at a moment.
--
-- Between two syncs each range that was written or cut, and the part past the old end, may hold any bytes after a
-- crash; all other bytes stay. After a sync that succeeded a crash leaves what a read gives.
use Rattle.std.specs.Prelude.{◌≡◌, ◌⊎◌, ℕ, ◌+◌, ◌-◌, ◌<◌, ◌≤◌, min, List, [], ◌∷◌, ◌++◌, length, take, drop, slice_get}
use Rattle.std.specs.Prelude.{◌%◌, ◌^◌, Result, OnOk, OnErr}
use Rattle.std.specs.List.{AllByRecursion}

-- ---- moments

-- what the last sync made sure, and the ranges written or cut since then, each from a place up to another
pub record Moment : Type 0 where
  pub sure : List ℕ
  pub touched : List (ℕ × ℕ)

-- the moment after a sync
abbrev pub settled : List ℕ → Moment
settled bytes = record { sure = bytes; touched = [] }

-- the moment after one more range was written or cut
abbrev pub touched : ℕ → ℕ → Moment → Moment
touched from until m = record { sure = m.sure; touched = (from, until) ∷ m.touched }

-- the place is in none of the ranges
abbrev pub IsOutside : List (ℕ × ℕ) → ℕ → Type 0
IsOutside [] place = Unit {0}
IsOutside (range ∷ ranges) place = ((place < range.0) ⊎ (range.1 ≤ place)) × IsOutside ranges place

-- the new bytes are the old ones at each old place outside the ranges
abbrev pub Stays : List (ℕ × ℕ) → List ℕ → List ℕ → Type 0
Stays ranges old new =
    (place : ℕ) → place < length old → IsOutside ranges place → slice_get new place ≡ slice_get old place

-- a crash at this moment may leave these bytes
pub record MayLeave (m : Moment) (bytes : List ℕ) : Type 0 where
  pub stays : Stays m.touched m.sure bytes
  pub whole : m.touched ≡ [] → bytes ≡ m.sure

-- whatever a crash at this moment leaves, P holds of it
abbrev pub Leaves : (List ℕ → Type 0) → Moment → Type 0
Leaves P m = (bytes : List ℕ) → MayLeave m bytes → P bytes

-- ---- the clock

-- Q holds of the moment now, and of each one since the clock showed that past (the newest moment stands first)
pub record HoldsSince (past new_past : List Moment) (now : Moment) (Q : Moment → Type 0) : Type 0 where
  pub since : List Moment
  pub goes_on : new_past ≡ since ++ past
  pub each : AllByRecursion Q since
  pub here : Q now

-- whatever a crash at any moment since then leaves, P holds of it
abbrev pub LeavesSince : List Moment → List Moment → Moment → (List ℕ → Type 0) → Type 0
LeavesSince past new_past now P = HoldsSince past new_past now (Leaves P)

-- ---- calls

-- a read at a place gave `count` bytes, fewer than there was room for only at the end
pub record IsGiven (bytes : List ℕ) (place : ℕ) (old new : List ℕ) (count : ℕ) : Type 0 where
  pub count_is : count ≡ min (length old) (length bytes - place)
  pub given : new ≡ take count (drop place bytes) ++ drop count old

-- the new bytes are the old ones with these written at a place
abbrev pub IsWritten : List ℕ → ℕ → List ℕ → List ℕ → Type 0
IsWritten old place bytes new = new ≡ take place old ++ bytes ++ drop (place + length bytes) old

-- a range was written or cut in a call, or nothing was done
abbrev pub IsTouched : ℕ → ℕ → Moment → List Moment → Moment → List Moment → Type 0
IsTouched from until m past new_m new_past =
    ((new_m ≡ touched from until m) × (new_past ≡ m ∷ past)) ⊎ ((new_m ≡ m) × (new_past ≡ past))

-- one more failure, counted in 64 bits
unfoldable pub one_more : ℕ → ℕ
one_more count = (count + 1) % 2 ^ 64

-- a call counts one more failure where it answers one, and else none
pub record IsCounted {T E : Type 0} (before now : ℕ) (result : Result T E) : Type 0 where
  pub failed : OnErr result (now ≡ one_more before)
  pub worked : OnOk result (now ≡ before)
