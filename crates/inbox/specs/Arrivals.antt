-- WHAT PEERS SEND AND WHAT IS TAKEN OF IT (this project's own)
use Rattle.std.specs.Prelude.{◌≡◌, ℕ, ◌==◌, ◌<◌, ◌≤◌, ◌+◌, ◌-◌, ◌^◌, min, List, [], ◌∷◌, ◌++◌, map, filter}

-- how many peers an inbox has; they have the numbers from 1 to this one
abbrev pub peers : ℕ
peers = 8

-- the number of a peer
abbrev pub IsPeer : ℕ → Type 0
IsPeer peer = (1 ≤ peer) × (peer ≤ peers)

-- bytes that were taken from the inbox, with the number of the peer that sent them
pub record Arrival : Type 0 where
  pub peer : ℕ
  pub bytes : List ℕ

-- a peer, and all bytes that it sent, in order; what was answered Full it did not send
pub record SentBy : Type 0 where
  pub peer : ℕ
  pub sent : List (List ℕ)

-- what the adder knows: all that was taken, in order, and what the peers that were lent to it had sent
pub record Intake : Type 0 where
  pub taken : List Arrival
  pub told : List SentBy

abbrev pub no_intake : Intake
no_intake = record { taken = []; told = [] }

abbrev pub with_arrival : Intake → Arrival → Intake
with_arrival i arrival = record i { taken = i.taken ++ arrival ∷ [] }

abbrev pub with_told : Intake → List SentBy → Intake
with_told i peers = record i { told = i.told ++ peers }

abbrev pub with_bytes : SentBy → List ℕ → SentBy
with_bytes s bytes = record s { sent = s.sent ++ bytes ∷ [] }

-- the bytes of one peer among the arrivals, in order
abbrev pub came_of : ℕ → List Arrival → List (List ℕ)
came_of peer arrivals = map (λ a. a.bytes) (filter (λ a. a.peer == peer) arrivals)

-- the whole begins with a part, or ends with it
abbrev pub BeginsWith : {A : Type 0} → List A → List A → Type 0
BeginsWith {A} whole part = (rest : List A) × (whole ≡ part ++ rest)

abbrev pub EndsWith : {A : Type 0} → List A → List A → Type 0
EndsWith {A} whole part = (front : List A) × (whole ≡ front ++ part)

-- all that came of a peer begins with what was told of it
abbrev pub IsToldOf : List Arrival → SentBy → Type 0
IsToldOf arrivals s = BeginsWith (came_of s.peer arrivals) s.sent

-- a count that goes up by one; one of 64 bits stands still at its largest number
abbrev pub one_more : ℕ → ℕ
one_more count = min (count + 1) (2 ^ 64 - 1)

-- the count of so many, as far as it fits 64 bits
abbrev pub IsCountOf : ℕ → ℕ → Type 0
IsCountOf count many = many < 2 ^ 64 → count ≡ many
