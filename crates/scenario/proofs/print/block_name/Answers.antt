use Rattle.std.proofs.Common.{sym, subst}
use Rattle.model.specs.Block.{SpellsBlock}
use Rattle.model.proofs.BlockTexts.{block_text_is}
use Rattle.scenario.proofs.print.block_name.Goals as goal

pub returns-clause-spelled : goal.returns-clause-spelled
returns-clause-spelled g c = subst (SpellsBlock c.args.block.now) (sym (block_text_is c.args.block.now c.bytes-text.result.now c.bytes-text.ensures.read)) c.bytes-text.ensures.read
