-- What a seat and a caller know after they were told what the journal has.
use Rattle.std.specs.Prelude.{◌≡◌, ◌+◌, true}
use Rattle.model.specs.Signature.{Verifies}
use Rattle.model.specs.Ledger.{Network}
use Rattle.shared.specs.Starts.{network_from}
use Rattle.model.specs.Journal.{Journal, Knowledge, BeginsWithSeen, IsLegalJournal, IsLook, height_of}
use Rattle.shared.specs.Heights.{SeatView, height_after, KnowsCalls}

-- the seat has seen what the writer has, which is legal, begins with what it had seen, and has of its caller's calls
-- just those that it knows; it read the height once
pub record IsTold (verifies : Verifies) (writer v w : SeatView) : Type 0 where
  pub same : w ≡ record v {
    seen = writer.seen;
    before = v.seen;
    loads = v.loads + 1;
    last = height_after v.start writer.seen;
  }
  pub begins : BeginsWithSeen writer.seen v.seen
  pub legal : IsLegalJournal (network_from v.start verifies) writer.seen
  pub calls : KnowsCalls v.role writer.seen v.calls

-- the writer has the right, and has seen what it had
pub record IsStillWriter (v w : SeatView) : Type 0 where
  pub right : w.writes ≡ true
  pub role : w.role ≡ v.role
  pub seen : w.seen ≡ v.seen

-- the caller looked at the height, and has then seen the whole journal
pub record IsInformed (network : Network) (journal : Journal) (before after : Knowledge) : Type 0 where
  pub look : IsLook network before (height_of network journal) after
  pub seen : after.seen ≡ journal
