use Rattle.script.proofs.names.Names.obey_inside.Goals as goal

pub returns-in-End : goal.returns-in-End
returns-in-End c = rw c.in-End.is c.end_tx.ensures
