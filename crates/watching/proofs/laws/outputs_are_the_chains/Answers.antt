use Rattle.watching.proofs.Following.{outputs_are_its}
use Rattle.watching.proofs.laws.outputs_are_the_chains.Goals as goal

pub returns : goal.returns
returns c = outputs_are_its
