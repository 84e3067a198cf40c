use Rattle.watching.proofs.Settled.{index_is_the_nodes}
use Rattle.watching.proofs.laws.index_is_the_nodes.Goals as goal

pub returns : goal.returns
returns c = index_is_the_nodes
