use Rattle.worked_threads.proofs.resuming_tests.runs_on.Given as goal

abbrev pub ghosts-runs-B-Room : goal.ghosts-runs-B-Room
ghosts-runs-B-Room g a = record { table = a.opened.table; start = a.opened.start }

abbrev pub ghosts-runs-M-Mailroom : goal.ghosts-runs-M-Mailroom
ghosts-runs-M-Mailroom g a = record { table = a.inbox.table; capacity = a.inbox.capacity }
