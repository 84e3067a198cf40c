-- What the values of the code stand for.
use Rattle.model.specs.Transaction.{Output}
use Rattle.model.specs.Genesis.{output_of_grant}
use Rattle.model.specs.Applying as model
pub use Rattle.block.specs.View.{tip_of}
use Rattle.utxo_rules.specs.View.{reason_of}
use Rattle.genesis.specs.View.{grant_view}
use Rattle.genesis.specs.declared.grants.Grant.{Grant}
use Rattle.ledger.specs.declared.block_fault.BlockFault.{BlockFault}
use Rattle.ledger.specs.declared.block_fault.BlockFault.TheVariants.{WrongNumber, WrongPrev, SlotNotRising, BodyTooBig, TxFault}

abbrev pub fault_of : BlockFault → model.BlockFault
fault_of WrongNumber = model.WrongNumber
fault_of WrongPrev = model.WrongPrev
fault_of SlotNotRising = model.SlotNotRising
fault_of BodyTooBig = model.BodyTooBig
fault_of (TxFault index reason) = model.TxFault index (reason_of reason)

-- what a grant leaves to be spent
abbrev pub granted_output : Grant → Output
granted_output grant = output_of_grant (grant_view grant)
