use Rattle.model.proofs.AppliedBlocks.{state_at_genesis, state_push, state_pop, one_state_of}
use Rattle.model.proofs.ledgers.states_of_chains.Goals as goal

pub returns-clause-opening : goal.returns-clause-opening
returns-clause-opening c = state_at_genesis

pub returns-clause-more : goal.returns-clause-more
returns-clause-more c = state_push

pub returns-clause-last : goal.returns-clause-last
returns-clause-last c = λ network chain b t is. let was = state_pop network chain b t is in (was.before, was.is, was.applied)

pub returns-clause-one : goal.returns-clause-one
returns-clause-one c = one_state_of
