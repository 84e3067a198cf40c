-- No line feed so far.
use Rattle.std.proofs.Common.{◌≢◌, All, take}
use Rattle.conversing.proofs.lane_line.part_of.Given as goal

abbrev pub invariant-loop-i : goal.invariant-loop-i
invariant-loop-i l = All (λ b. b ≢ 10) (take l.i l.bytes)
