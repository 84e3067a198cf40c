use Rattle.std.specs.Prelude.{[]}
use Rattle.model.proofs.MempoolPasses.{picked_folds, picked_fits}
use Rattle.model.proofs.mempool.picked_transactions.Goals as goal

pub returns-clause-folds : goal.returns-clause-folds
returns-clause-folds c = picked_folds

pub returns-clause-fits : goal.returns-clause-fits
returns-clause-fits c = λ verifies params slot utxo ts. picked_fits verifies params slot utxo [] ts
