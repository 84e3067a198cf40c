-- How blocks and their transactions are judged.
use Rattle.std.specs.Prelude.{◌≡◌, ℕ, ◌<◌, ◌≤◌, Result, Err}
use Rattle.model.specs.Signature.{Verifies}
use Rattle.model.specs.Rules.{Params, Reason}
use Rattle.model.specs.Block.{Block, body_size_of}
use Rattle.model.specs.Chain.{Tip, Follows}
use Rattle.model.specs.Ledger.{Ledger}
use Rattle.model.specs.Applying.{LedgerState, BlockFault, fault_number, HasFault, IsFirstFault}
use Rattle.utxo_rules.specs.View.{reason_of}
use Rattle.ledger.specs.View.{fault_of}
use Rattle.ledger.specs.declared.block_fault.ApplyFault.{ApplyFault}
use Rattle.ledger.specs.declared.block_fault.ApplyFault.TheVariants.{Refused, OutOfMemory}
use Rattle.ledger.specs.declared.block_fault.BlockFault.TheVariants.{WrongNumber, WrongPrev, SlotNotRising, BodyTooBig, TxFault}

-- the state with these parts
abbrev pub state_with : Params → Ledger → Tip → LedgerState
state_with params ledger tip = record { params = params; ledger = ledger; tip = tip }

-- the block follows the tip, and its body fits
pub record Fits (s : LedgerState) (b : Block) : Type 0 where
  pub follows : Follows s.tip b
  pub size : body_size_of b ≤ s.params.max_body_size

-- the two have the same parameters and the same tip
pub record HasSameEnds (s t : LedgerState) : Type 0 where
  pub params : t.params ≡ s.params
  pub tip : t.tip ≡ s.tip

-- why transactions that are judged in order are not applied: one of them, with the reason, or OutOfMemory
abbrev pub IsBodyFault : Result Ledger (ℕ × Reason) → ApplyFault → Type 0
IsBodyFault judged (Refused (TxFault index reason)) = judged ≡ Err (index, reason_of reason)
IsBodyFault judged (Refused WrongNumber) = ⊥
IsBodyFault judged (Refused WrongPrev) = ⊥
IsBodyFault judged (Refused SlotNotRising) = ⊥
IsBodyFault judged (Refused BodyTooBig) = ⊥
IsBodyFault judged OutOfMemory = Unit {0}

-- why a block is not applied: its first fault, or OutOfMemory, which is told only where none of the faults 1 to 4 is
abbrev pub IsApplyFault : Verifies → LedgerState → Block → ApplyFault → Type 0
IsApplyFault verifies s b (Refused fault) = IsFirstFault verifies s b (fault_of fault)
IsApplyFault verifies s b OutOfMemory = (fault : BlockFault) → fault_number fault < 5 → HasFault verifies s b fault → ⊥
