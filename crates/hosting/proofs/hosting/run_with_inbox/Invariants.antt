use Rattle.hosting.proofs.hosting.run_with_inbox.Given as goal

abbrev pub ghosts-run_on_log : goal.ghosts-run_on_log
ghosts-run_on_log g a = record { table = a.inbox.table; capacity = a.inbox.capacity }
