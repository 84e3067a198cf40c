use Rattle.watching.proofs.Telling.{histories_are_its}
use Rattle.watching.proofs.laws.histories_are_the_chains.Goals as goal

pub returns : goal.returns
returns c = histories_are_its
