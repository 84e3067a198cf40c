-- Which arrival is held, whether or not it was read.
use Rattle.inbox.specs.Arrivals.{Arrival}
use Rattle.shared.specs.declared.held.SeenArrival.{SeenArrival}
use Rattle.shared.specs.declared.held.Held.{Held}
use Rattle.shared.specs.declared.held.Held.TheVariants.{Unread, Seen}

-- the arrival that was read
abbrev pub seen_arrival : {S : Type 0} → SeenArrival S → Arrival
seen_arrival a = record { peer = a.peer; bytes = a.seen }

-- the arrival that is held, read or not
abbrev pub held_arrival : {S : Type 0} → Held S → Arrival
held_arrival (Unread arrival) = arrival
held_arrival (Seen arrival) = seen_arrival arrival
