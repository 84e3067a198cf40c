use Rattle.worked_threads.proofs.pool_tests.adder_uses_its_pool.Given as goal

abbrev pub ghosts-checked_by_two-B-Room : goal.ghosts-checked_by_two-B-Room
ghosts-checked_by_two-B-Room g a = record { table = a.opened.table; start = a.opened.start }

abbrev pub ghosts-checked_by_two-M-Mailroom : goal.ghosts-checked_by_two-M-Mailroom
ghosts-checked_by_two-M-Mailroom g a = record { table = a.inbox.table; capacity = a.inbox.capacity }
