-- Why a fork isn't made ready.
use Rattle.std.specs.Prelude.{◌≡◌, ℕ, ◌<◌, List, ◌++◌, length, take, get_or}
use Rattle.model.specs.Signature.{Verifies}
use Rattle.model.specs.Block.{Block}
use Rattle.model.specs.Ledger.{Network}
use Rattle.model.specs.Applying.{LedgerState, AreStates, last_state, IsStateOf}
use Rattle.ledger.specs.Judgement.{IsApplyFault}
use Rattle.ledger.specs.declared.block_fault.ApplyFault.{ApplyFault}
use Rattle.ledger.specs.declared.block_fault.ApplyFault.TheVariants as apply
use Rattle.ledgerdb.specs.declared.fork_fault.ForkFault.{ForkFault}
use Rattle.ledgerdb.specs.declared.fork_fault.ForkFault.TheVariants.{Refused, OutOfMemory}

-- the blocks before this place are applied to the state, one after the other, and the one at it isn't, for this reason
pub record StopsAt (verifies : Verifies) (root : LedgerState) (blocks : List Block) (index : ℕ)
    (fault : ApplyFault) : Type 0 where
  pub before : List LedgerState
  pub applied : AreStates verifies root (take index blocks) before
  pub block : Block
  pub within : index < length blocks
  pub here : get_or blocks index block ≡ block
  pub is_stopped : IsApplyFault verifies (last_state root before) block fault

-- the first block that isn't applied, counted from 0, with its first fault; or OutOfMemory, where there are blocks
-- at one of them, which then has none of the first four faults
abbrev pub IsForkFault : Verifies → LedgerState → List Block → ForkFault → Type 0
IsForkFault verifies root blocks (Refused index fault) =
    StopsAt verifies root blocks index (apply.Refused fault)
IsForkFault verifies root blocks OutOfMemory =
    0 < length blocks → (index : ℕ) × StopsAt verifies root blocks index apply.OutOfMemory

-- the same of the state of a chain, and of the chain with the blocks before this place
pub record StopsOnChain (network : Network) (root blocks : List Block) (index : ℕ) (fault : ApplyFault) : Type 0 where
  pub state : LedgerState
  pub is : IsStateOf network (root ++ take index blocks) state
  pub block : Block
  pub within : index < length blocks
  pub here : get_or blocks index block ≡ block
  pub is_stopped : IsApplyFault network.verifies state block fault

abbrev pub IsFaultOnChain : Network → List Block → List Block → ForkFault → Type 0
IsFaultOnChain network root blocks (Refused index fault) =
    StopsOnChain network root blocks index (apply.Refused fault)
IsFaultOnChain network root blocks OutOfMemory =
    0 < length blocks → (index : ℕ) × StopsOnChain network root blocks index apply.OutOfMemory
