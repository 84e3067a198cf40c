use Rattle.model.proofs.ExampleValues.{later_header_length, later_block_length}
use Rattle.model.proofs.examples.lengths_of_later_blocks.Goals as goal

pub returns-clause-header : goal.returns-clause-header
returns-clause-header c = later_header_length

pub returns-clause-block : goal.returns-clause-block
returns-clause-block c = later_block_length
