use Rattle.model.proofs.ToldChains.{theorem_of_legal}
use Rattle.model.proofs.histories.chain_theorem.Goals as goal

pub returns : goal.returns
returns c = theorem_of_legal
