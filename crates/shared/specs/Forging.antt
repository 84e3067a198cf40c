-- Blocks that are forged of what a shared core has: the journal has nothing of them.
use Rattle.std.specs.Prelude.{ℕ, List}
use Rattle.ident.specs.declared.point.Point.{Point}
use Rattle.model.specs.Block.{Block, SpellsBlock}
use Rattle.model.specs.Ledger.{Network}
use Rattle.model.specs.Forging.{ArrivesNext}
use Rattle.model.specs.History.{State}
use Rattle.chain_core.specs.ForgedBlocks.{IsForgedAs}

-- these are the text and the place of the block that is forged of this state in this slot; and where the text arrives
-- next, the block is put on
pub record IsForgedOf (network : Network) (s : State) (slot : ℕ) (bytes : List ℕ) (point : Point) : Type 0 where
  pub forged : IsForgedAs network s.chain s.mempool slot bytes point
  pub arrives : (b : Block) → SpellsBlock b bytes → ArrivesNext network s b bytes
