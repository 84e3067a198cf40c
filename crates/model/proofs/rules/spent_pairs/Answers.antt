use Rattle.model.proofs.Unspent.{spent_by, by_spent}
use Rattle.model.proofs.rules.spent_pairs.Goals as goal

pub returns : goal.returns
returns c = λ utxo t output. (spent_by utxo t.inputs output, by_spent utxo t.inputs output)
