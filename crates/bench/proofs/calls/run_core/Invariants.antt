use Rattle.bench.proofs.calls.run_core.Given as goal

abbrev pub ghosts-run_inbox : goal.ghosts-run_inbox
ghosts-run_inbox g a = record { table = a.inbox.table; capacity = a.inbox.capacity }
