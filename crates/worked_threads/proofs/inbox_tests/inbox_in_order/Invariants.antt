use Rattle.worked_threads.proofs.inbox_tests.inbox_in_order.Given as goal

abbrev pub ghosts-in_order : goal.ghosts-in_order
ghosts-in_order g a = record { table = a.opened.table; capacity = a.opened.capacity }
