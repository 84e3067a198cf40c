use Rattle.tx.proofs.OneOrder.{one_tx_made}
use Rattle.tx.proofs.laws.one_tx_of_parts.Goals as goal

pub returns : goal.returns
returns c = one_tx_made
