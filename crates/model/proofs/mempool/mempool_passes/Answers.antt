use Rattle.model.proofs.MempoolPasses.{twice, put_last, folds, all_stay}
use Rattle.model.proofs.mempool.mempool_passes.Goals as goal

pub returns-clause-again : goal.returns-clause-again
returns-clause-again c = twice

pub returns-clause-put : goal.returns-clause-put
returns-clause-put c = put_last

pub returns-clause-folds : goal.returns-clause-folds
returns-clause-folds c = folds

pub returns-clause-stays : goal.returns-clause-stays
returns-clause-stays c = all_stay
