use Rattle.std.proofs.Common.{◌≡◌, ◌+◌, ◌++◌, drop}
use Rattle.simulation.specs.Simulation.{peer_lines}
use Rattle.simulation.proofs.summary.put_peers.Given as goal

-- what was appended so far and the lines of the rest are the lines of all
abbrev pub invariant-loop-place : goal.invariant-loop-place
invariant-loop-place l = l.lines.items ++ peer_lines (l.place + 1) (drop l.place l.arrivals) ≡ l.initial.lines.items ++ peer_lines 1 l.arrivals
