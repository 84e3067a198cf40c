use Rattle.hosting.proofs.hosting.host_on_log.Given as goal

abbrev pub ghosts-run_with_inbox : goal.ghosts-run_with_inbox
ghosts-run_with_inbox g a = record { table = a.opened.table; start = a.opened.start }
