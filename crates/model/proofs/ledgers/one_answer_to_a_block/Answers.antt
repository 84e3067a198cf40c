use Rattle.model.proofs.AppliedBlocks.{no_fault, one_first_fault, one_after}
use Rattle.model.proofs.ledgers.one_answer_to_a_block.Goals as goal

pub returns-clause-applied : goal.returns-clause-applied
returns-clause-applied c = no_fault

pub returns-clause-fault : goal.returns-clause-fault
returns-clause-fault c = one_first_fault

pub returns-clause-state : goal.returns-clause-state
returns-clause-state c = one_after
