-- What a log of the code stands for, and what it keeps.
use Rattle.std.specs.Prelude.{◌≡◌, ◌+◌, ℕ, List, length, false}
use Rattle.std.specs.List.{AllByRecursion}
use Rattle.model.specs.Disk.{Moment, settled}
use Rattle.model.specs.Log.{IsLogBlock, at_rest}
use Rattle.immlog.specs.Index.{blocks_in, AreEntriesOf}
use Rattle.immlog.specs.OpenLog.{OpenLog}
use Rattle.immlog.specs.declared.log.Log.TheInside.{Inside}

abbrev pub log_of : {D : Type 0} → Inside D → OpenLog D
log_of a = record { disk = a.disk; blocks = blocks_in a.index; broken = a.broken }

-- the disk has the records of the blocks and a closed gate, all of it sure
pub record IsResting {D : Type 0} (reads : D → List ℕ) (moment : D → Moment) (a : Inside D) : Type 0 where
  pub rest : reads a.disk ≡ at_rest (blocks_in a.index)
  pub sure : moment a.disk ≡ settled (reads a.disk)
  pub place : a.gate + 1 ≡ length (reads a.disk)

pub record IsHeld {D : Type 0} (reads : D → List ℕ) (moment : D → Moment) (a : Inside D) : Type 0 where
  pub sizes : AllByRecursion IsLogBlock (blocks_in a.index)
  pub entries : AreEntriesOf 0 (blocks_in a.index) a.index.entries.items
  pub resting : a.broken ≡ false → IsResting reads moment a
