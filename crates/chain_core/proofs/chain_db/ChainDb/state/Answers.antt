use Rattle.chain.specs.Chained.{chain_of}
use Rattle.chain_core.proofs.chain_db.ChainDb.state.Goals as goal

pub returns : goal.returns
returns g c = λ network whole. c.state.ensures.chain network (chain_of c.args.self.now.chain) whole.settled.database
