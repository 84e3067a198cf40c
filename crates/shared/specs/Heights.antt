-- THE RULE OF THE HEIGHT (this project's own)
-- One word tells the height to all threads. What it stands for is a journal that exists in this rule alone: the word is
-- the height after it, and each thread has a seat, whose view says which beginning of the journal its owner has seen.
-- One seat at a time has the right to write.
use Rattle.std.specs.Prelude.{◌≡◌, ℕ, suc, ◌+◌, ◌≤◌, List, [], ◌∷◌, ◌++◌, length, Some, None, slice_get, Bool, true}
use Rattle.std.specs.Prelude.{false, nat_lt, if◌then◌else◌}
use mathlib.Core.Option.{some}
use lib.ListN.{get_elem?}
use Rattle.atomic_table.specs.Table as table
use Rattle.atomic_table.specs.Seated.{TableId}
use Rattle.model.specs.Signature.{Verifies}
use Rattle.model.specs.Genesis.{Genesis}
use Rattle.shared.specs.Starts.{Start, network_from, new_start}
use Rattle.model.specs.History.{Open, OutOfMemory, length_from}
use Rattle.model.specs.Journal.{JournalEntry, Journal, Knowledge, history_of, calls_of, IsLegalJournal, BeginsWithSeen}

-- the height after a journal that begins there: how many blocks the chain has that is then selected
abbrev pub height_after : Start → Journal → ℕ
height_after start journal = length_from (length start.opened) (history_of journal)

-- ---- what a seat knows

-- what a seat is for: to give callers their numbers, this one next; for the calls of a caller; to carry the right to
-- write from one seat to another; or no more for anything
pub data Role : Type 0 where
  Deals : (next : ℕ) → Role
  Calls : (caller : ℕ) → Role
  Carries : Role
  Spent : Role

-- What the core began from; what the seat is for; whether it has the right to write; the journal that was seen, and
-- what was seen of it before a note came; the calls that its caller made; how often its caller read the height, and
-- what it read last.
pub record SeatView : Type 0 where
  pub start : Start
  pub role : Role
  pub writes : Bool
  pub seen : Journal
  pub before : Journal
  pub calls : Journal
  pub loads : ℕ
  pub last : ℕ

-- the first seat deals and writes
abbrev pub first_view : Start → SeatView
first_view start =
    record { start = start; role = Deals 0; writes = true; seen = []; before = []; calls = []; loads = 0; last = 0 }

-- ---- how the right goes from one seat to another, by a note

-- the seat without the right
abbrev pub without_right : SeatView → SeatView
without_right v = record v { writes = false }

-- the note: it has the right, and what was seen
abbrev pub note_of : SeatView → SeatView
note_of v = record v { role = Carries; writes = true; before = []; calls = []; loads = 0; last = 0 }

-- the seat that takes a note in has the right, and has seen what the note has; it keeps what it had seen before
abbrev pub with_note : SeatView → SeatView → SeatView
with_note v note = record v { writes = true; seen = note.seen; before = v.seen }

-- ---- how callers meet, by notes without the right

-- a note of what the seat has seen, without the right; the seat stays as it is
abbrev pub copy_of : SeatView → SeatView
copy_of v = record v { role = Carries; writes = false; before = []; calls = []; loads = 0; last = 0 }

abbrev pub unchanged : SeatView → SeatView
unchanged v = v

-- the seat lays what the note has seen beside what it has seen itself, so that a look can tell that this begins with it
abbrev pub with_copy : SeatView → SeatView → SeatView
with_copy v note = record v { before = note.seen }

-- the longer of two journals
abbrev pub longer : Journal → Journal → Journal
longer a b = if nat_lt (length b) (length a) then a else b

-- the seat learns from the note: it has seen the longer of the two, and keeps what it had seen before
abbrev pub with_news : SeatView → SeatView → SeatView
with_news v note = record v { seen = longer v.seen note.seen; before = v.seen }

-- a genesis that nobody has, and the name of no table
abbrev pub no_genesis : Genesis
no_genesis =
    record {
      params = record {
        network = 0;
        min_fee_a = 0;
        min_fee_b = 0;
        min_utxo = 0;
        max_tx_size = 0;
        max_body_size = 0;
        second_era = None;
      };
      k = 0;
      max_volatile = 0;
      max_volatile_bytes = None;
      max_mempool = 0;
      grants = [];
    }

abbrev pub no_start : Start
no_start = new_start no_genesis

abbrev pub no_table : TableId
no_table = record { words = 0; slots = 0; views_name = 0; atom = 0; block = 0; offset = 0; slot_names = [] }

-- an entry of no journal
abbrev pub no_entry : JournalEntry
no_entry = record { caller = 0; peer = None; entry = record { event = Open; reply = OutOfMemory } }

-- the note that was taken in
abbrev pub spent_view : SeatView
spent_view =
    record {
      start = no_start;
      role = Spent;
      writes = false;
      seen = [];
      before = [];
      calls = [];
      loads = 0;
      last = 0;
    }

-- ---- how callers get their numbers

abbrev pub next_role : Role → Role
next_role (Deals next) = Deals (suc next)
next_role role = role

-- the seat that has given a number
abbrev pub has_dealt : SeatView → SeatView
has_dealt v = record v { role = next_role v.role }

abbrev pub dealt_role : Role → Role
dealt_role (Deals next) = Calls next
dealt_role role = Spent

-- the seat of the new caller, who made no call
abbrev pub new_caller : SeatView → SeatView
new_caller v = record v { role = dealt_role v.role; writes = false; before = []; calls = []; loads = 0; last = 0 }

-- ---- the rule

-- a look: the word is the height of a legal journal, which begins with what was seen and has then been seen
abbrev pub FitsRole : Journal → ℕ → List ℕ → ℕ → Journal → Role → Type 0
FitsRole log dealer seats by calls (Deals next) = (by ≡ dealer) × (next ≡ length seats)
FitsRole log dealer seats by calls (Calls caller) = (slice_get seats caller ≡ Some by) × (calls_of caller log ≡ calls)
FitsRole log dealer seats by calls Carries = Unit {0}
FitsRole log dealer seats by calls Spent = Unit {0}

-- What a seat knows is so: the journal begins with what was seen, and who has the right is the one writer and has seen
-- all of it.
pub record Fits (start : Start) (log : Journal) (writer dealer : ℕ) (seats : List ℕ) (by : ℕ)
    (v : SeatView) : Type 0 where
  pub start_is : v.start ≡ start
  pub seen : BeginsWithSeen log v.seen
  pub before : BeginsWithSeen log v.before
  pub right : v.writes ≡ true → (by ≡ writer) × (v.seen ≡ log)
  pub role : FitsRole log dealer seats by v.calls v.role

-- There is a legal journal of which the word is the height. Callers who have no number have no call in it.
pub record IsKept {S : Type 0} (verifies : Verifies) (start : Start) (s : table.State S SeatView) : Type 0 where
  pub log : Journal
  pub writer : ℕ
  pub dealer : ℕ
  pub seats : List ℕ
  pub legal : IsLegalJournal (network_from start verifies) log
  pub word : s.words ≡ height_after start log ∷ []
  pub unknown : (caller : ℕ) → length seats ≤ caller → calls_of caller log ≡ []
  pub fits : (by : ℕ) (v : SeatView) → get_elem? s.views by ≡ some v → (v.role ≡ Spent → ⊥)
      → Fits start log writer dealer seats by v

-- ---- what the steps tell

-- the caller's calls in the journal are those that its seat knows
abbrev pub KnowsCalls : Role → Journal → Journal → Type 0
KnowsCalls (Calls caller) journal calls = calls_of caller journal ≡ calls
KnowsCalls role journal calls = Unit {0}

-- a look: the word is the height of a legal journal, which begins with what was seen, and which has then been seen
pub record IsLooked (verifies : Verifies) (v : SeatView) (height : ℕ) (w : SeatView) : Type 0 where
  pub same : w ≡ record v { seen = w.seen; loads = v.loads + 1; last = height }
  pub seen : BeginsWithSeen w.seen v.seen
  pub legal : IsLegalJournal (network_from v.start verifies) w.seen
  pub height_is : height ≡ height_after v.start w.seen
  pub calls : KnowsCalls v.role w.seen v.calls

-- a look by the one who writes, after a note: what was seen begins with what the note laid beside it, and the word is
-- the height after it
pub record IsCompared (v : SeatView) (height : ℕ) (w : SeatView) : Type 0 where
  pub same : w ≡ record v { loads = v.loads + 1; last = height }
  pub begins : BeginsWithSeen v.seen v.before
  pub height_is : height ≡ height_after v.start v.seen

-- the seat that has written an entry of its own
abbrev pub with_entry : SeatView → JournalEntry → SeatView
with_entry v entry = record v { seen = v.seen ++ entry ∷ []; calls = v.calls ++ entry ∷ [] }

-- a store: the entry stands at the end of the journal
abbrev pub IsWritten : JournalEntry → SeatView → SeatView → Type 0
IsWritten entry v w = (w ≡ with_entry v entry) × KnowsCalls v.role w.seen w.calls

-- ---- what a caller's seat stands for

-- what the caller of the number knows
abbrev pub knowledge_of : ℕ → SeatView → Knowledge
knowledge_of number v =
    record { caller = number; seen = v.seen; calls = v.calls; loads = v.loads; last = v.last }
