-- What forging promises.
use Rattle.std.specs.Prelude.{ℕ, List}
use Rattle.ident.specs.declared.point.Point.{Point}
use Rattle.model.specs.Transaction.{Transaction}
use Rattle.model.specs.Block.{Block, SpellsBlock}
use Rattle.model.specs.Ledger.{Network}
use Rattle.model.specs.Forging as model
use Rattle.chain_core.specs.Judgements.{IsPointOf}
use Rattle.chain_core.specs.declared.forging.ForgeFault.{ForgeFault}
use Rattle.chain_core.specs.declared.forging.ForgeFault.TheVariants as fault

-- a block was forged of what waits, these bytes are its text, and this is its place
pub record IsForgedAs (network : Network) (chain : List Block) (waiting : List Transaction) (slot : ℕ)
    (bytes : List ℕ) (point : Point) : Type 0 where
  pub block : Block
  pub forged : model.IsForged network chain waiting slot block
  pub text : SpellsBlock block bytes
  pub place : IsPointOf point block

-- when each fault comes: the first that applies, or OutOfMemory where none does
abbrev pub IsForgeFault : Network → List Block → (slot : ℕ) → ForgeFault → Type 0
IsForgeFault network chain slot fault.SlotNotAfterTip = model.IsNotForged network chain slot model.SlotNotAfterTip
IsForgeFault network chain slot fault.OutOfRange = model.IsNotForged network chain slot model.OutOfRange
IsForgeFault network chain slot fault.OutOfMemory =
    (fault : model.ForgeFault) → model.ForgeApplies network chain slot fault → ⊥
