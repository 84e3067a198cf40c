use Rattle.bench.proofs.peers.time.Given as goal

abbrev pub ghosts-run_core : goal.ghosts-run_core
ghosts-run_core g a = record { table = a.opened.table; start = a.opened.start }
