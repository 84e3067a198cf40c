use Rattle.mempool.proofs.Ids.{has_decides}
use Rattle.mempool.proofs.waiting.Waiting.has.Goals as goal

pub returns : goal.returns
returns g c = has_decides c.self.inside c.args.self.now c.args.id c.self.view_is c.self.invariant c.contains_key.result c.contains_key.ensures
