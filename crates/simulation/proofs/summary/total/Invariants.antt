use Rattle.std.proofs.Common.{◌≡◌, take}
use Rattle.simulation.specs.Simulation.{total_of}
use Rattle.simulation.proofs.summary.total.Given as goal

-- what was added up so far
abbrev pub invariant-loop-count : goal.invariant-loop-count
invariant-loop-count l = l.total ≡ total_of (take l.count-index l.arrivals)
