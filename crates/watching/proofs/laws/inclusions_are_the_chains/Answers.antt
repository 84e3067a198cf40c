use Rattle.watching.proofs.Telling.{inclusions_are_its}
use Rattle.watching.proofs.laws.inclusions_are_the_chains.Goals as goal

pub returns : goal.returns
returns c = inclusions_are_its
