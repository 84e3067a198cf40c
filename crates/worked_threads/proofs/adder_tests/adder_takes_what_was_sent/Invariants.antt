use Rattle.worked_threads.proofs.adder_tests.adder_takes_what_was_sent.Given as goal

abbrev pub ghosts-taken_in_turns-B-Room : goal.ghosts-taken_in_turns-B-Room
ghosts-taken_in_turns-B-Room g a = record { table = a.opened.table; start = a.opened.start }

abbrev pub ghosts-taken_in_turns-M-Mailroom : goal.ghosts-taken_in_turns-M-Mailroom
ghosts-taken_in_turns-M-Mailroom g a = record { table = a.inbox.table; capacity = a.inbox.capacity }
