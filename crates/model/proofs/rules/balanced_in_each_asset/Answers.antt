use Rattle.model.proofs.Balances.{balanced_preserves, preserves_balanced}
use Rattle.model.proofs.rules.balanced_in_each_asset.Goals as goal

pub returns : goal.returns
returns c = λ utxo t. (balanced_preserves utxo t, preserves_balanced utxo t)
