use Rattle.scenario.proofs.NodeBalances.{balances_are_the_nodes}
use Rattle.scenario.proofs.laws.balances_are_the_nodes.Goals as goal

pub returns : goal.returns
returns c = balances_are_the_nodes c.index_is_the_nodes.ensures
