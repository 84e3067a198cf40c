-- What a node that stays does to its log.
use Rattle.std.specs.Prelude.{ℕ, List, length}
use Rattle.model.specs.Disk.{Moment, Leaves, LeavesSince}
use Rattle.model.specs.Ledger.{Network}
use Rattle.model.specs.Journal.{Journal}
use Rattle.model.specs.Log.{OpensToBeginning}
use Rattle.shared.specs.Copies.{AreImmutableAfter}
use Rattle.flushing.specs.Texts.{Begins}

-- After this journal the log, which had some blocks, has the first of those that no rollback reaches any more, with all
-- that it had; a crash at any moment since then leaves a log that isn't damaged, of the first of these blocks, with all
-- that it had; and one now leaves all that it has.
pub record IsKept (network : Network) (journal : Journal) (had has : List (List ℕ)) (past new_past : List Moment)
    (now : Moment) : Type 0 where
  pub texts : List (List ℕ)
  pub are : AreImmutableAfter network journal texts
  pub begins : Begins has texts
  pub stay : Begins had has
  pub crash : LeavesSince past new_past now (OpensToBeginning (length had) texts)
  pub crash_now : Leaves (OpensToBeginning (length has) texts) now
