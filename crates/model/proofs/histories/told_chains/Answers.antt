use Rattle.model.proofs.ToldChains.{was_selected}
use Rattle.model.proofs.histories.told_chains.Goals as goal

pub returns : goal.returns
returns c = was_selected
