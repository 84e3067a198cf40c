use Rattle.hosting.proofs.hosting.host.Given as goal

abbrev pub ghosts-run_alone : goal.ghosts-run_alone
ghosts-run_alone g a = record { table = a.opened.table; start = a.opened.start }
