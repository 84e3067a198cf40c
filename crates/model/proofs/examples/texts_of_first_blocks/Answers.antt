use Rattle.model.proofs.ExampleValues.{first_header_text, first_block, first_block_length}
use Rattle.model.proofs.examples.texts_of_first_blocks.Goals as goal

pub returns-clause-header : goal.returns-clause-header
returns-clause-header c = first_header_text

pub returns-clause-block : goal.returns-clause-block
returns-clause-block c = first_block

pub returns-clause-bytes : goal.returns-clause-bytes
returns-clause-bytes c = first_block_length
