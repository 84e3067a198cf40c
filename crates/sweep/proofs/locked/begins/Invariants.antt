use Rattle.sweep.proofs.locked.begins.Given as goal

abbrev pub ghosts-plays-B-Room : goal.ghosts-plays-B-Room
ghosts-plays-B-Room g a = record { table = a.opened.table; start = a.opened.start }

abbrev pub ghosts-plays-M-Mailroom : goal.ghosts-plays-M-Mailroom
ghosts-plays-M-Mailroom g a = record { table = a.inbox.table; capacity = a.inbox.capacity }
