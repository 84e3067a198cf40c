use Rattle.chain_core.proofs.OffWays.{are_unconnected}
use Rattle.chain_core.proofs.finding.unconnected_in.Goals as goal

pub returns : goal.returns
returns g c = λ network s whole has. are_unconnected network c.args.chain_db.now s whole has c.unconnected.result c.unconnected.ensures
