use Rattle.worked_threads.proofs.log_tests.log_beside_the_adder.Given as goal

abbrev pub ghosts-logs_beside-B-Room : goal.ghosts-logs_beside-B-Room
ghosts-logs_beside-B-Room g a = record { table = a.opened.table; start = a.opened.start }

abbrev pub ghosts-logs_beside-M-Mailroom : goal.ghosts-logs_beside-M-Mailroom
ghosts-logs_beside-M-Mailroom g a = record { table = a.inbox.table; capacity = a.inbox.capacity }
