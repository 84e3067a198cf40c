use Rattle.std.proofs.Common.{sym, subst}
use Rattle.model.specs.Block.{SpellsBlock, block_text}
use Rattle.model.proofs.BlockTexts.{block_text_is}
use Rattle.scenario.proofs.IndexLines.{lost_block, taken_block}
use Rattle.scenario.proofs.key_index.follow.Goals as goal

pub returns-in-AddBlock-clause-taken : goal.returns-in-AddBlock-clause-taken
returns-in-AddBlock-clause-taken g c =
    let block = c.in-AddBlock.block in
    let spelled = subst (SpellsBlock block) (sym (block_text_is block c.bytes-text.result.now c.bytes-text.ensures.read)) c.bytes-text.ensures.read in
    rw c.in-AddBlock.is (taken_block c.add_block.result c.args.index.now c.add_block.new.self block (block_text block) spelled c.add_block.ensures.taken)

pub returns-in-AddBlock-clause-lost : goal.returns-in-AddBlock-clause-lost
returns-in-AddBlock-clause-lost g c =
    let block = c.in-AddBlock.block in
    let spelled = subst (SpellsBlock block) (sym (block_text_is block c.bytes-text.result.now c.bytes-text.ensures.read)) c.bytes-text.ensures.read in
    rw c.in-AddBlock.is (lost_block c.add_block.result c.args.index.now block (block_text block) spelled c.add_block.ensures.fault)
