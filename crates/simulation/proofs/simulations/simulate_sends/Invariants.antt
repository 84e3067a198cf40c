use Rattle.simulation.proofs.simulations.simulate_sends.Given as goal

abbrev pub ghosts-simulate : goal.ghosts-simulate
ghosts-simulate g a = record { table = a.core.table; start = a.core.start }
