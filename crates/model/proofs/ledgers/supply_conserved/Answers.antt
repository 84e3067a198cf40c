use Rattle.model.proofs.LedgerSteps.{supply_kept}
use Rattle.model.proofs.ledgers.supply_conserved.Goals as goal

pub returns : goal.returns
returns c = supply_kept
