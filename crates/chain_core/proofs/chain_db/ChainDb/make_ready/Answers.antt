use Rattle.chain_core.proofs.chain_db.ChainDb.make_ready.Goals as goal
