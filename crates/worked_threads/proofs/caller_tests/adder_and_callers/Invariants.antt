use Rattle.worked_threads.proofs.caller_tests.adder_and_callers.Given as goal

abbrev pub ghosts-called_beside_an_adder-B-Room : goal.ghosts-called_beside_an_adder-B-Room
ghosts-called_beside_an_adder-B-Room g a = record { table = a.opened.table; start = a.opened.start }

abbrev pub ghosts-called_beside_an_adder-M-Mailroom : goal.ghosts-called_beside_an_adder-M-Mailroom
ghosts-called_beside_an_adder-M-Mailroom g a = record { table = a.inbox.table; capacity = a.inbox.capacity }
