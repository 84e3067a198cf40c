-- THE JOURNAL (this project's own): which caller brought which event, and what was answered, in the order in which the
-- calls of all threads took effect. Without the callers it is a history.
use Rattle.std.specs.Prelude.{◌≡◌, ◌≤◌, ℕ, ◌+◌, ◌==◌, List, [], ◌∷◌, ◌++◌, Option, Some, None, map, filter, length}
use Rattle.std.specs.List.{AllByRecursion}
use Rattle.model.specs.Ledger.{Network}
use Rattle.model.specs.Limits.{greatest_peer}
use Rattle.model.specs.History.{State, Event, Arrive, Entry, IsLegal, length_after}

-- an event with its reply; the number of the caller who brought it; and of an arrival the peer that it came from
pub record JournalEntry : Type 0 where
  pub caller : ℕ
  pub peer : Option ℕ
  pub entry : Entry

abbrev pub Journal : Type 0
Journal = List JournalEntry

-- the journal without its callers and peers
abbrev pub history_of : Journal → List Entry
history_of journal = map (λ e. e.entry) journal

-- the calls of one caller, in their order
abbrev pub calls_of : ℕ → Journal → Journal
calls_of caller journal = filter (λ e. e.caller == caller) journal

-- an arrival came from a peer, of a number from 1 to 8, and nothing else did
abbrev pub IsFrom : Event → Option ℕ → Type 0
IsFrom (Arrive bytes) (Some peer) = (1 ≤ peer) × (peer ≤ greatest_peer)
IsFrom (Arrive bytes) None = ⊥
IsFrom event (Some peer) = ⊥
IsFrom event None = Unit {0}

-- an entry names a peer, one from 1 to 8, just where it is an arrival
abbrev pub NamesItsPeer : JournalEntry → Type 0
NamesItsPeer e = IsFrom e.entry.event e.peer

-- LEGAL JOURNALS
-- The history is legal, and each arrival, and nothing else, names the peer that it came from, one from 1 to 8.
pub record IsLegalJournal (network : Network) (journal : Journal) : Type 0 where
  pub state : State
  pub legal : IsLegal network (history_of journal) state
  pub named : AllByRecursion NamesItsPeer journal

-- how many blocks the chain has that is selected after the journal
abbrev pub height_of : Network → Journal → ℕ
height_of network journal = length_after network (history_of journal)

-- the journal begins with what was seen of it
abbrev pub BeginsWithSeen : Journal → Journal → Type 0
BeginsWithSeen journal seen = (since : Journal) × (journal ≡ seen ++ since)

-- WHAT A CALLER KNOWS
-- Its number, the beginning of the journal that it has seen, its own calls, how often it has read the height, and what
-- it read last.
pub record Knowledge : Type 0 where
  pub caller : ℕ
  pub seen : Journal
  pub calls : Journal
  pub loads : ℕ
  pub last : ℕ

-- RULE OF A LOCKED CALL
-- After it the caller has seen a legal journal that begins with all that it had seen, ends with this call and its
-- reply, and has of the caller's calls just those that it made, each once, in their order. It has read the height once
-- more: what it was before the call.
pub record IsCalled (network : Network) (before : Knowledge) (call : JournalEntry) (after : Knowledge) : Type 0 where
  pub own : call.caller ≡ before.caller
  pub between : Journal
  pub seen : after.seen ≡ (before.seen ++ between) ++ call ∷ []
  pub legal : IsLegalJournal network after.seen
  pub calls : after.calls ≡ before.calls ++ call ∷ []
  pub each_once : calls_of before.caller after.seen ≡ after.calls
  pub caller : after.caller ≡ before.caller
  pub loads : after.loads ≡ before.loads + 1
  pub last : after.last ≡ height_of network (before.seen ++ between)

-- RULE OF A LOOK AT THE HEIGHT
-- The height is the length of the chain that is selected after a legal journal, which begins with all that the caller
-- had seen, and which it has then seen. It has read the height once more, and this is what it read last.
pub record IsLook (network : Network) (before : Knowledge) (height : ℕ) (after : Knowledge) : Type 0 where
  pub seen : BeginsWithSeen after.seen before.seen
  pub legal : IsLegalJournal network after.seen
  pub height_is : height ≡ length legal.state.chain
  pub loads : after.loads ≡ before.loads + 1
  pub last : after.last ≡ height
  pub caller : after.caller ≡ before.caller
  pub calls : after.calls ≡ before.calls
  pub each_once : calls_of before.caller after.seen ≡ after.calls

-- RULE OF A MEETING
-- Each looks at the height, and both have then seen the same journal. Nothing else changes.
pub record IsMeeting (network : Network) (a b a' b' : Knowledge) : Type 0 where
  pub height : ℕ
  pub one : IsLook network a height a'
  pub other : IsLook network b height b'
  pub same : a'.seen ≡ b'.seen
