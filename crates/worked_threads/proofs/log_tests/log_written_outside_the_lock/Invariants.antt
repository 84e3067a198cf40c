use Rattle.worked_threads.proofs.log_tests.log_written_outside_the_lock.Given as goal

abbrev pub ghosts-writes_outside-B-Room : goal.ghosts-writes_outside-B-Room
ghosts-writes_outside-B-Room g a = record { table = a.opened.table; start = a.opened.start }

abbrev pub ghosts-writes_outside-M-Mailroom : goal.ghosts-writes_outside-M-Mailroom
ghosts-writes_outside-M-Mailroom g a = record { table = a.inbox.table; capacity = a.inbox.capacity }
