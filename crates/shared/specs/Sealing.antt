-- What a call that is written into the journal leaves of the two seats.
use Rattle.std.specs.Prelude.{◌≡◌, ◌+◌, [], ◌∷◌, ◌++◌, true, false}
use Rattle.model.specs.Journal.{JournalEntry, calls_of, BeginsWithSeen}
use Rattle.shared.specs.Heights.{SeatView, height_after}

-- the caller's seat has seen what the writer had, with the entry at its end, and has this one call more; it read the
-- height before it once
pub record IsSealed (writer : SeatView) (entry : JournalEntry) (v w : SeatView) : Type 0 where
  pub same : w ≡ record v {
    writes = false;
    seen = writer.seen ++ entry ∷ [];
    before = v.seen;
    calls = v.calls ++ entry ∷ [];
    loads = v.loads + 1;
    last = height_after v.start writer.seen;
  }
  pub begins : BeginsWithSeen writer.seen v.seen
  pub calls : calls_of entry.caller w.seen ≡ w.calls

-- the writer has the right again, and has seen the entry
pub record IsWriterAfter (v : SeatView) (entry : JournalEntry) (w : SeatView) : Type 0 where
  pub right : w.writes ≡ true
  pub role : w.role ≡ v.role
  pub seen : w.seen ≡ v.seen ++ entry ∷ []
