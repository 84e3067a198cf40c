use Rattle.simulation.proofs.simulations.simulate.Given as goal

abbrev pub ghosts-simulate_on : goal.ghosts-simulate_on
ghosts-simulate_on g a = record { table = a.inbox.table; capacity = a.inbox.capacity }
