use Rattle.std.proofs.Common.{◌≡◌, ◌+◌, length}
use Rattle.simulation.proofs.simulations.ask_all.Given as goal

-- one for the first client, and for each of the others that was asked
abbrev pub invariant-loop-place : goal.invariant-loop-place
invariant-loop-place g l = (length l.told.items ≡ l.place + 1) × (length l.others ≡ length l.initial.others)
