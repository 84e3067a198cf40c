-- Why an output isn't put after others.
use Rattle.std.specs.Prelude.{List}
use Rattle.model.specs.Transaction.{Input, Output}
use Rattle.snapshot.specs.Rising.{IsNotAfter}
use Rattle.snapshot.specs.declared.fault.SnapshotFault.{SnapshotFault}
use Rattle.snapshot.specs.declared.fault.SnapshotFault.TheVariants as faults

-- its input doesn't come after the last one, or memory ran out
abbrev pub IsAddFault : List (Input × Output) → Input → SnapshotFault → Type 0
IsAddFault pairs input faults.WrongOrder = IsNotAfter pairs input
IsAddFault pairs input faults.OutOfMemory = Unit {0}
IsAddFault pairs input faults.NotAPart = ⊥
IsAddFault pairs input faults.OtherNetwork = ⊥
IsAddFault pairs input faults.RoomLeft = ⊥
IsAddFault pairs input faults.TooMany = ⊥
IsAddFault pairs input faults.CoinsOverSupply = ⊥
IsAddFault pairs input faults.Unfinished = ⊥
IsAddFault pairs input faults.CoinsMissing = ⊥
