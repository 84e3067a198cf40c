-- What a function returned, against a reading of the bytes.
use Rattle.std.specs.Prelude.{◌≡◌, Option, Some, None, Result, Ok, Err}
use Rattle.cbor.specs.declared.fault.CborFault.{CborFault}
use Rattle.cbor.specs.declared.fault.CborFault.TheVariants as faults

-- what it refused, the reading refuses
abbrev pub Refuses : {Y : Type 0} → CborFault → Option Y → Type 0
Refuses faults.Malformed read = read ≡ None
Refuses faults.OutOfMemory read = Unit {0}

-- it returned what the reading gives, unless memory ran out
abbrev pub Gives : {X Y : Type 0} → (X → Y) → Result X CborFault → Option Y → Type 0
Gives view (Ok x) read = read ≡ Some (view x)
Gives view (Err fault) read = Refuses fault read

-- a fact that holds where the bytes are at fault
abbrev pub IfMalformed : CborFault → Type 0 → Type 0
IfMalformed faults.Malformed P = P
IfMalformed faults.OutOfMemory P = Unit {0}

-- a fact that holds where memory was wanting
abbrev pub IfWant : CborFault → Type 0 → Type 0
IfWant faults.Malformed P = Unit {0}
IfWant faults.OutOfMemory P = P

-- the reading gives nothing with this property
abbrev pub GivesNo : {X : Type 0} → (X → Type 0) → Option X → Type 0
GivesNo P read = (x : _) → read ≡ Some x → P x → ⊥
