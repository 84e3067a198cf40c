use Rattle.model.proofs.Evaluations.{answered}
use Rattle.model.proofs.asking.evaluated_as_answered.Goals as goal

pub returns : goal.returns
returns c = answered
