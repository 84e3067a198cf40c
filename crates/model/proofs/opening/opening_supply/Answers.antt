use Rattle.model.proofs.OpeningOutputs.{opening_holds}
use Rattle.model.proofs.opening.opening_supply.Goals as goal

pub returns : goal.returns
returns c = opening_holds
