use Rattle.model.specs.History.{opening}
use Rattle.model.proofs.LegalHistories.{legal_sound, run_length, step_longer}
use Rattle.model.proofs.histories.selected_chain.Goals as goal

pub returns-clause-valid : goal.returns-clause-valid
returns-clause-valid c = λ network history s opens legal. (legal_sound network history s opens legal).valid

pub returns-clause-longest : goal.returns-clause-longest
returns-clause-longest c = λ network history s opens legal. (legal_sound network history s opens legal).longest

pub returns-clause-longer : goal.returns-clause-longer
returns-clause-longer c = step_longer

pub returns-clause-counted : goal.returns-clause-counted
returns-clause-counted c = λ network history s legal. run_length network (opening network) history s legal
