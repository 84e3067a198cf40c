use Rattle.model.proofs.BlockTexts.{one_block, blocks_apart}
use Rattle.model.proofs.texts.one_text_of_blocks.Goals as goal

pub returns-clause-one : goal.returns-clause-one
returns-clause-one c = one_block

pub returns-clause-apart : goal.returns-clause-apart
returns-clause-apart c = blocks_apart
