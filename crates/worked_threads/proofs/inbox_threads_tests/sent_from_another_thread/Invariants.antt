use Rattle.worked_threads.proofs.inbox_threads_tests.sent_from_another_thread.Given as goal

abbrev pub ghosts-crossed : goal.ghosts-crossed
ghosts-crossed g a = record { table = a.opened.table; capacity = a.opened.capacity }
