use Rattle.model.proofs.Changes.{step_shares, step_no_more, step_bounded, step_told}
use Rattle.model.proofs.histories.change_counts.Goals as goal

pub returns-clause-shared : goal.returns-clause-shared
returns-clause-shared c = step_shares

pub returns-clause-no_more : goal.returns-clause-no_more
returns-clause-no_more c = step_no_more

pub returns-clause-bounded : goal.returns-clause-bounded
returns-clause-bounded c = step_bounded

pub returns-clause-told : goal.returns-clause-told
returns-clause-told c = step_told
