use Rattle.hosting.proofs.hosting.run_alone.Given as goal

abbrev pub ghosts-run_on_none : goal.ghosts-run_on_none
ghosts-run_on_none g a = record { table = a.inbox.table; capacity = a.inbox.capacity }
