-- A shared core that begins on the blocks of a log.
use Rattle.std.specs.Prelude.{◌≡◌, ℕ, List}
use Rattle.model.specs.Ledger.{Network}
use Rattle.chain_core.specs.Reopening.{IsFirstInvalid}
use Rattle.chain_core.specs.declared.reopening.ReopenFault.{ReopenFault}
use Rattle.chain_core.specs.declared.reopening.ReopenFault.TheVariants as reopening
use Rattle.shared.specs.Opening.{AreCallers}
use Rattle.shared.specs.declared.open_fault.OpenFault.{OpenFault}
use Rattle.shared.specs.declared.open_fault.OpenFault.TheVariants as opening
use Rattle.flushing.specs.declared.fault.SharedOnFault.{SharedOnFault}
use Rattle.flushing.specs.declared.fault.SharedOnFault.TheVariants.{BadCallers, InvalidBlock, OutOfMemory}

-- the fault of a core that isn't opened on blocks, and that of a shared one
abbrev pub reopening_fault : ReopenFault → SharedOnFault
reopening_fault (reopening.InvalidBlock number) = InvalidBlock number
reopening_fault reopening.OutOfMemory = OutOfMemory

abbrev pub opening_fault : OpenFault → SharedOnFault
opening_fault opening.BadCallers = BadCallers
opening_fault opening.OutOfMemory = OutOfMemory

-- when each fault comes: there are too few callers or too many; or there aren't, and this is the first of the texts
-- that is no block which may come next, or memory ran out
abbrev pub IsSharedOnFault : Network → (texts : List (List ℕ)) → (callers : ℕ) → SharedOnFault → Type 0
IsSharedOnFault network texts callers BadCallers = AreCallers callers → ⊥
IsSharedOnFault network texts callers (InvalidBlock number) =
    AreCallers callers × IsFirstInvalid network texts number
IsSharedOnFault network texts callers OutOfMemory = AreCallers callers

-- it tells of no block
abbrev pub TellsNoBlock : SharedOnFault → Type 0
TellsNoBlock BadCallers = Unit {0}
TellsNoBlock (InvalidBlock number) = ⊥
TellsNoBlock OutOfMemory = Unit {0}
