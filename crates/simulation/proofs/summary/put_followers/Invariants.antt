use Rattle.std.proofs.Common.{◌≡◌, ◌++◌, drop}
use Rattle.simulation.specs.Simulation.{follower_lines}
use Rattle.simulation.proofs.summary.put_followers.Given as goal

-- what was appended so far and the lines of the rest are the lines of all
abbrev pub invariant-loop-blocks : goal.invariant-loop-blocks
invariant-loop-blocks l = l.lines.items ++ follower_lines (drop l.blocks-index l.told) ≡ l.initial.lines.items ++ follower_lines l.told
