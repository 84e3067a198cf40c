-- THE RULE OF THE INBOX (this project's own)
-- Peers push arrivals onto a queue, and the adder pops them. The rule speaks of what the queue holds, oldest first, and
-- of what each pass knows. There are just four kinds of step: a push that enters, a push that finds the queue full, a
-- pop that takes, and a pop that finds it empty. A push changes what its peer's pass knows and no other; a pop what the
-- adder's knows and no other. Beside these, passes are made: each peer's at the opening, and notes, by which one pass
-- tells another what it knows.
use Rattle.std.specs.Prelude.{◌≡◌, ℕ, suc, ◌<◌, ◌≤◌, List, [], ◌∷◌, ◌++◌, length, Some, slice_get}
use Rattle.std.specs.List.{AllByRecursion}
use mathlib.Core.Option.{some}
use lib.ListN.{get_elem?}
use Rattle.inbox.specs.Arrivals.{Arrival, SentBy, came_of, BeginsWith, EndsWith, IsToldOf}

-- ---- what a pass knows

-- what a pass is for: to take, and to give the peers their numbers, this one next; to send for a peer; to carry what
-- one pass knows to another; or no more for anything
pub data Role : Type 0 where
  Takes : (next : ℕ) → Role
  Sends : (peer : ℕ) → Role
  Carries : Role
  Spent : Role

-- What a pass is for; what its peer sent with it; what was taken with it; what notes told it that peers had sent, and
-- that had been taken.
pub record PassView : Type 0 where
  pub role : Role
  pub sent : List (List ℕ)
  pub taken : List Arrival
  pub told : List SentBy
  pub heard : List Arrival

abbrev pub fresh_view : Role → PassView
fresh_view role = record { role = role; sent = []; taken = []; told = []; heard = [] }

-- the first pass takes, and gives the number 1 next
abbrev pub first_view : PassView
first_view = fresh_view (Takes 1)

abbrev pub with_sent : PassView → List ℕ → PassView
with_sent v bytes = record v { sent = v.sent ++ bytes ∷ [] }

abbrev pub with_taken : PassView → Arrival → PassView
with_taken v arrival = record v { taken = v.taken ++ arrival ∷ [] }

-- ---- how peers get their numbers

abbrev pub next_role : Role → Role
next_role (Takes next) = Takes (suc next)
next_role role = role

-- the pass that has given a number
abbrev pub has_dealt : PassView → PassView
has_dealt v = record v { role = next_role v.role }

abbrev pub dealt_role : Role → Role
dealt_role (Takes next) = Sends next
dealt_role role = Spent

-- the pass of the new peer, who has sent nothing
abbrev pub new_peer : PassView → PassView
new_peer v = fresh_view (dealt_role v.role)

-- ---- notes

abbrev pub told_by : Role → List (List ℕ) → List SentBy
told_by (Sends peer) sent = record { peer = peer; sent = sent } ∷ []
told_by role sent = []

-- a note of a pass: what its peer sent, and what was taken with it; the pass stays as it is
abbrev pub note_of : PassView → PassView
note_of v = record { role = Carries; sent = []; taken = []; told = told_by v.role v.sent; heard = v.taken }

abbrev pub as_it_is : PassView → PassView
as_it_is v = v

-- the pass that takes a note in
abbrev pub with_note : PassView → PassView → PassView
with_note v note = record v { told = v.told ++ note.told; heard = note.heard }

-- the note that was taken in
abbrev pub spent_view : PassView
spent_view = fresh_view Spent

-- ---- the rule

-- The one pass that takes has number 0 among the ends, and knows all that was taken; the one pass that sends for a peer
-- has the peer's number there, and knows all that came of the peer.
abbrev pub FitsRole : List Arrival → List Arrival → List ℕ → ℕ → List (List ℕ) → List Arrival → Role → Type 0
FitsRole log taken ends by sent mine (Takes next) =
    (slice_get ends 0 ≡ Some by) × (next ≡ length ends) × (mine ≡ taken)
FitsRole log taken ends by sent mine (Sends peer) =
    (0 < peer) × (slice_get ends peer ≡ Some by) × (sent ≡ came_of peer log)
FitsRole log taken ends by sent mine Carries = Unit {0}
FitsRole log taken ends by sent mine Spent = Unit {0}

-- What a pass knows is so.
pub record Fits (log taken : List Arrival) (ends : List ℕ) (by : ℕ) (v : PassView) : Type 0 where
  pub role : FitsRole log taken ends by v.sent v.taken v.role
  pub mine : BeginsWith taken v.taken
  pub told : AllByRecursion (IsToldOf log) v.told
  pub heard : BeginsWith taken v.heard

-- There is a log of all arrivals that entered the queue: those that were taken, and then those that the queue holds.
-- Nothing came of who is no peer.
pub record IsKept (items : List Arrival) (views : List PassView) : Type 0 where
  pub log : List Arrival
  pub taken : List Arrival
  pub ends : List ℕ
  pub whole : log ≡ taken ++ items
  pub nobody : came_of 0 log ≡ []
  pub later : (peer : ℕ) → length ends ≤ peer → came_of peer log ≡ []
  pub fits : (by : ℕ) (v : PassView) → get_elem? views by ≡ some v → Fits log taken ends by v

-- ---- what the steps tell

-- a push that enters
abbrev pub IsSent : PassView → Arrival → PassView → Type 0
IsSent v arrival w = w ≡ with_sent v arrival.bytes

-- a push that finds the queue full: what its peer sent ends with what the queue holds of it
abbrev pub IsHeldOf : Role → List (List ℕ) → List Arrival → Type 0
IsHeldOf (Sends peer) sent items = EndsWith sent (came_of peer items)
IsHeldOf role sent items = Unit {0}

-- a pop that takes: what is taken came of a peer whose number was given
abbrev pub IsDealt : Role → ℕ → Type 0
IsDealt (Takes next) peer = (0 < peer) × (peer < next)
IsDealt role peer = Unit {0}

abbrev pub IsTaken : PassView → Arrival → PassView → Type 0
IsTaken v arrival w = (w ≡ with_taken v arrival) × IsDealt v.role arrival.peer

-- a pop that finds the queue empty: what was taken of a peer begins with all that it was told to have sent
abbrev pub IsAllTaken : PassView → List Arrival → Type 0
IsAllTaken v items = items ≡ [] → AllByRecursion (IsToldOf v.taken) v.told

-- after a note of what was taken: what the peer sent begins with what was taken of it
abbrev pub HasHeard : Role → List (List ℕ) → List Arrival → Type 0
HasHeard (Sends peer) sent heard = BeginsWith sent (came_of peer heard)
HasHeard role sent heard = Unit {0}
