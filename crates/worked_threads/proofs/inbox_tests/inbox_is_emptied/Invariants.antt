use Rattle.worked_threads.proofs.inbox_tests.inbox_is_emptied.Given as goal

abbrev pub ghosts-taken_at_last : goal.ghosts-taken_at_last
ghosts-taken_at_last g a = record { table = a.opened.table; capacity = a.opened.capacity }
