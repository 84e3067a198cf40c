use Rattle.scenario.proofs.print.print_utxo.Goals as goal

pub returns-in-Ok : goal.returns-in-Ok
returns-in-Ok c = c.in-Ok.ensures.bytes
