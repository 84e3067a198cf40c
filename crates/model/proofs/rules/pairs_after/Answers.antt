use Rattle.model.proofs.Unspent.{after_new, after_spent, after_other}
use Rattle.model.proofs.rules.pairs_after.Goals as goal

pub returns-clause-new : goal.returns-clause-new
returns-clause-new c = after_new

pub returns-clause-spent : goal.returns-clause-spent
returns-clause-spent c = after_spent

pub returns-clause-others : goal.returns-clause-others
returns-clause-others c = after_other
