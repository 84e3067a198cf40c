-- What becomes of a fault of a pair, and which fault says that a state has no text.
use Rattle.cbor.specs.declared.fault.CborFault.{CborFault}
use Rattle.cbor.specs.declared.fault.CborFault.TheVariants as cbor
use Rattle.snapshot.specs.declared.fault.SnapshotFault.{SnapshotFault}
use Rattle.snapshot.specs.declared.fault.SnapshotFault.TheVariants as faults
use Rattle.snapshot.specs.declared.fault.WriteFault.{WriteFault}
use Rattle.snapshot.specs.declared.fault.WriteFault.TheVariants as write

abbrev pub fault_of : CborFault → SnapshotFault
fault_of cbor.Malformed = faults.NotAPart
fault_of cbor.OutOfMemory = faults.OutOfMemory

-- a fact that holds where an output is too long
abbrev pub IfTooLong : WriteFault → Type 0 → Type 0
IfTooLong write.TooLong P = P
IfTooLong write.OutOfMemory P = Unit {0}
