use Rattle.std.proofs.Common.{◌≡◌, length}
use Rattle.simulation.proofs.simulations.meet_all.Given as goal

abbrev pub invariant-loop-place : goal.invariant-loop-place
invariant-loop-place g l = length l.others ≡ length l.initial.others
