-- What ends tell one another, and what is said when an inbox ends.
use Rattle.std.specs.Prelude.{◌≡◌, ℕ, List, ◌++◌, length}
use Rattle.inbox.specs.Arrivals.{Arrival, SentBy, came_of, BeginsWith, IsCountOf}
use Rattle.inbox.specs.Rule.{PassView}

-- what was taken of the peer is a beginning of what it sent
abbrev pub BeginsWhatWasSent : List Arrival → SentBy → Type 0
BeginsWhatWasSent taken peer = BeginsWith peer.sent (came_of peer.peer taken)

-- what was taken of the peer is all that it sent
abbrev pub IsAllThatWasSent : List Arrival → SentBy → Type 0
IsAllThatWasSent taken peer = came_of peer.peer taken ≡ peer.sent

-- a pass was told what these peers sent
pub record IsToldBy (peers : List SentBy) (v w : PassView) : Type 0 where
  pub role : w.role ≡ v.role
  pub sent : w.sent ≡ v.sent
  pub taken : w.taken ≡ v.taken
  pub told : w.told ≡ v.told ++ peers

-- so many were sent by the peer, and so many of it were taken
pub record IsCountedOf (arrivals : List Arrival) (peer : SentBy) (sent_count taken_count : ℕ) : Type 0 where
  pub sent : IsCountOf sent_count (length peer.sent)
  pub came : IsCountOf taken_count (length (came_of peer.peer arrivals))

-- of one peer: what was taken of it is a beginning of what it sent, and both are counted
pub record IsTallied (arrivals : List Arrival) (peer : SentBy) (sent_count taken_count : ℕ) : Type 0 where
  pub begins : BeginsWhatWasSent arrivals peer
  pub counted : IsCountedOf arrivals peer sent_count taken_count
