-- WHAT AN ADDER DOES (this project's own): it takes what peers sent, and brings it to the core, one arrival after the
-- other, by locked calls of its own.
use Rattle.std.specs.Prelude.{◌≡◌, ℕ, suc, ◌+◌, ◌<◌, ◌^◌, List, [], ◌∷◌, ◌++◌, Option, Some, None, Ok, length}
use Rattle.std.specs.List.{AllByRecursion}
use mathlib.Core.Path.{refl}
use Rattle.std.specs.Coded.{Coded, coded×, coded_option, code_by}
use Rattle.model.specs.Ledger.{Network}
use Rattle.model.specs.History.{Reply}
use Rattle.model.specs.Journal.{JournalEntry, Journal, Knowledge, IsCalled}
use Rattle.model.specs.JournalCodes.{coded_knowledge}
use Rattle.inbox.specs.Arrivals.{Arrival, SentBy, Intake, IsPeer, came_of, BeginsWith, IsCountOf}
use Rattle.inbox.specs.Codes.{coded_arrival, coded_intake}
use Rattle.chain_core.specs.declared.arrival.ArriveReply.{ArriveReply}
use Rattle.chain_core.specs.Views.{arrive_reply_of}
use Rattle.shared.specs.Arrivals.{arrival_in, arrivals_in}
use Rattle.shared.specs.Entries.{arrival_by}
use Rattle.shared.specs.Later.{IsLater}

-- what the adder knows as a caller; what it took; and the arrival that it took and hasn't brought to the core yet
pub record Adding : Type 0 where
  pub knows : Knowledge
  pub intake : Intake
  pub held : Option Arrival

abbrev pub coded_adding : Coded Adding
coded_adding =
    code_by (Knowledge × (Intake × Option Arrival))
    (coded× coded_knowledge (coded× coded_intake (coded_option coded_arrival))) (λ a. (a.knows, (a.intake, a.held)))
    (λ p. record { knows = p.0; intake = p.1.0; held = p.1.1 }) (λ _. refl)

abbrev pub held_in : Option Arrival → List Arrival
held_in None = []
held_in (Some arrival) = arrival ∷ []

-- RULE OF AN ADDER
-- The arrivals among its calls, and then the one that it holds, are all that it took, in order.
abbrev pub IsInStep : Adding → Type 0
IsInStep a = arrivals_in a.knows.calls ++ held_in a.held ≡ a.intake.taken

-- the entry tells of an arrival, which came from a peer of the inbox
abbrev pub IsArrival : JournalEntry → Type 0
IsArrival e = (arrival : Arrival) × (arrival_in e ≡ arrival ∷ []) × IsPeer arrival.peer

-- the caller brought bytes that this peer sent, by a locked call
abbrev pub IsBrought : Network → (before : Knowledge) → (peer : ℕ) → List ℕ → Knowledge → Type 0
IsBrought network before peer bytes after =
    (reply : Reply) × IsCalled network before (arrival_by before.caller peer bytes reply) after

-- RULE OF ADDING
-- From the one to the other it took arrivals, and each of its calls brought one of them.
pub record HasAdded (network : Network) (before after : Adding) : Type 0 where
  pub later : IsLater network before.knows after.knows
  pub brought : Journal
  pub calls : after.knows.calls ≡ before.knows.calls ++ brought
  pub arrivals : AllByRecursion IsArrival brought
  pub taken : BeginsWith after.intake.taken before.intake.taken
  pub in_step : IsInStep after

-- n calls came behind the first ones
abbrev pub IsGrownBy : Journal → Journal → ℕ → Type 0
IsGrownBy before after count = (more : ℕ) → length after ≡ length before + more → IsCountOf count more

-- all that the peer sent was brought, in order, each once
abbrev pub IsAllBrought : Journal → SentBy → Type 0
IsAllBrought calls peer = came_of peer.peer (arrivals_in calls) ≡ peer.sent

-- the count of what was brought of the peer at this place, where what was taken of it fits 64 bits
abbrev pub IsBroughtCount : Adding → ℕ → ℕ → Type 0
IsBroughtCount a place count =
    length (came_of (suc place) a.intake.taken) < 2 ^ 64
    → count ≡ length (came_of (suc place) (arrivals_in a.knows.calls))

-- it took what it then holds, if anything
pub record HasTaken (before after : Adding) : Type 0 where
  pub knows : after.knows ≡ before.knows
  pub taken : after.intake.taken ≡ before.intake.taken ++ held_in after.held

-- one call came behind the first ones, and this was answered to it
pub record IsLastAnswer (before after : Journal) (reply : ArriveReply) : Type 0 where
  pub call : JournalEntry
  pub calls : after ≡ before ++ call ∷ []
  pub reply_is : call.entry.reply ≡ arrive_reply_of (Ok reply)
