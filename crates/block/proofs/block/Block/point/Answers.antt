use Rattle.std.proofs.Common.{subst}
use Rattle.block.specs.Read.{IsRead}
use Rattle.block.proofs.Kept.{read_text}
use Rattle.model.specs.Block.{Block, block_text}
use Rattle.block.proofs.block.Block.point.Goals as goal

pub returns-clause-read : goal.returns-clause-read
returns-clause-read c = subst (λ (b : Block). IsRead b (block_text b)) c.self.view_is (read_text _ _ c.self.invariant.read)
