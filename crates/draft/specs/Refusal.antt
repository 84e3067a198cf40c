-- Why a part is refused.
use Rattle.std.specs.Prelude.{◌≡◌, Bool, true, false, Option, None, IsSome}
use Rattle.value.specs.declared.asset_fault.AssetFault.{AssetFault}
use Rattle.value.specs.declared.asset_fault.AssetFault.TheVariants as faults
use Rattle.draft.specs.declared.draft_fault.DraftFault.{DraftFault}
use Rattle.draft.specs.declared.draft_fault.DraftFault.TheVariants.{NotBuilt, OutOfMemory}
use Rattle.draft.specs.Draft.{Draft}

-- why a draft with the part is refused: there is none; or there is one, and memory ran out
abbrev pub IsRefusal : DraftFault → Option Draft → Type 0
IsRefusal NotBuilt wanted = wanted ≡ None
IsRefusal OutOfMemory wanted = IsSome wanted

-- why assets are refused: they are at fault; or they are not, and memory ran out
abbrev pub IsFaultRefusal : Bool → DraftFault → Type 0
IsFaultRefusal at_fault NotBuilt = at_fault ≡ true
IsFaultRefusal at_fault OutOfMemory = at_fault ≡ false

-- what is told of a fault of assets
abbrev pub draft_fault_of : AssetFault → DraftFault
draft_fault_of faults.NameTooLong = NotBuilt
draft_fault_of faults.ZeroQuantity = NotBuilt
draft_fault_of faults.Repeated = NotBuilt
draft_fault_of faults.OutOfMemory = OutOfMemory
