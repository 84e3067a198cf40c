use Rattle.snapshot.proofs.ChainEnds.{ends_of_chains}
use Rattle.snapshot.proofs.laws.ends_of_chains.Goals as goal

pub returns : goal.returns
returns c = ends_of_chains
