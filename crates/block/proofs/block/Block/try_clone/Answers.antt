use Rattle.std.proofs.Common.{subst}
use Rattle.model.specs.Block.{Block, block_text}
use Rattle.block.specs.Read.{IsRead}
use Rattle.block.proofs.Kept.{read_text}
use Rattle.block.proofs.block.Block.try_clone.Goals as goal

pub returns-in_err-inner-clause-read : goal.returns-in_err-inner-clause-read
returns-in_err-inner-clause-read c = subst (λ (b : Block). IsRead b (block_text b)) c.self.view_is (read_text _ _ c.self.invariant.read)

pub returns-clause-read : goal.returns-clause-read
returns-clause-read c = subst (λ (b : Block). IsRead b (block_text b)) c.self.view_is (read_text _ _ c.self.invariant.read)
