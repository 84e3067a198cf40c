-- What of a journal came from peers.
use Rattle.std.specs.Prelude.{ℕ, List, [], ◌∷◌, Option, Some}
use Rattle.std.specs.List.{flat_map}
use Rattle.model.specs.History.{Event, Arrive}
use Rattle.model.specs.Journal.{JournalEntry, Journal}
use Rattle.inbox.specs.Arrivals.{Arrival}

abbrev pub arrival_from : Option ℕ → Event → List Arrival
arrival_from (Some peer) (Arrive bytes) = record { peer = peer; bytes = bytes } ∷ []
arrival_from peer event = []

-- the arrival that an entry tells of, if it is one
abbrev pub arrival_in : JournalEntry → List Arrival
arrival_in e = arrival_from e.peer e.entry.event

-- all arrivals of a journal, in its order
abbrev pub arrivals_in : Journal → List Arrival
arrivals_in journal = flat_map arrival_in journal
