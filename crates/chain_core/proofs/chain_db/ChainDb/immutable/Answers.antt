use Rattle.chain_core.proofs.chain_db.ChainDb.immutable.Goals as goal

pub returns-clause-immutable : goal.returns-clause-immutable
returns-clause-immutable g c = λ network whole. c.immutable.ensures.immutable network c.args.self.now.store whole.settled
