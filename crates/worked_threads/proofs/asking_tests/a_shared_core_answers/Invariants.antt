use Rattle.worked_threads.proofs.asking_tests.a_shared_core_answers.Given as goal

abbrev pub ghosts-asked_beside_an_adder-B-Room : goal.ghosts-asked_beside_an_adder-B-Room
ghosts-asked_beside_an_adder-B-Room g a = record { table = a.opened.table; start = a.opened.start }

abbrev pub ghosts-asked_beside_an_adder-M-Mailroom : goal.ghosts-asked_beside_an_adder-M-Mailroom
ghosts-asked_beside_an_adder-M-Mailroom g a = record { table = a.inbox.table; capacity = a.inbox.capacity }
