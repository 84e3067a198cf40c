-- What a caller comes to know, one thing after the other.
use Rattle.std.specs.Prelude.{ℕ}
use Rattle.model.specs.Ledger.{Network}
use Rattle.model.specs.Journal.{JournalEntry, Knowledge, IsCalled, IsLook, IsMeeting}

-- the caller knows the second after the first, by locked calls, looks at the height and meetings with others
pub data IsLater (network : Network) : Knowledge → Knowledge → Type 0 where
  Same : (a : Knowledge) → IsLater network a a
  Called : (a b c : Knowledge) (call : JournalEntry) → IsLater network a b → IsCalled network b call c
      → IsLater network a c
  Looked : (a b c : Knowledge) (height : ℕ) → IsLater network a b → IsLook network b height c → IsLater network a c
  Met : (a b c other other' : Knowledge) → IsLater network a b → IsMeeting network b other c other'
      → IsLater network a c
