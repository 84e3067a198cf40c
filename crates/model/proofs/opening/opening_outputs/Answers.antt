use Rattle.model.proofs.OpeningOutputs.{opening_at, opening_elsewhere}
use Rattle.model.proofs.opening.opening_outputs.Goals as goal

pub returns-clause-granted : goal.returns-clause-granted
returns-clause-granted c = opening_at

pub returns-clause-others : goal.returns-clause-others
returns-clause-others c = opening_elsewhere
