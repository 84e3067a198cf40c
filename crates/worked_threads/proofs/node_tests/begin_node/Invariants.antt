use Rattle.worked_threads.proofs.node_tests.begin_node.Given as goal

abbrev pub ghosts-run_node-B-Room : goal.ghosts-run_node-B-Room
ghosts-run_node-B-Room g a = record { table = a.opened.table; start = a.opened.start }

abbrev pub ghosts-run_node-M-Mailroom : goal.ghosts-run_node-M-Mailroom
ghosts-run_node-M-Mailroom g a = record { table = a.inbox.table; capacity = a.inbox.capacity }
