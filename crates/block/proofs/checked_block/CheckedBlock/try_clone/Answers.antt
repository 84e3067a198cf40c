use Rattle.std.proofs.Common.{subst}
use Rattle.model.specs.Block.{Block, block_text}
use Rattle.block.specs.Read.{IsRead}
use Rattle.block.proofs.checked_block.CheckedBlock.try_clone.Goals as goal

pub returns-in_err-try_clone-clause-read : goal.returns-in_err-try_clone-clause-read
returns-in_err-try_clone-clause-read g c = subst (λ (b : Block). IsRead b (block_text b)) c.self.view_is c.self.invariant.read

pub returns-in_err-try_clone-2-clause-read : goal.returns-in_err-try_clone-2-clause-read
returns-in_err-try_clone-2-clause-read g c = subst (λ (b : Block). IsRead b (block_text b)) c.self.view_is c.self.invariant.read

pub returns-clause-read : goal.returns-clause-read
returns-clause-read g c = subst (λ (b : Block). IsRead b (block_text b)) c.self.view_is c.self.invariant.read
