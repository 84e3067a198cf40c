-- What the loop has appended, and the lines of the members that are still to come, are the whole. The measures go down
-- with the nesting.
use Rattle.std.proofs.Common.{◌≡◌, ◌+◌, ◌*◌, ◌++◌, drop}
use Rattle.std.specs.Prelude.{string_bytes}
use Rattle.timelock.specs.View.{timelock_of, timelocks_of}
use Rattle.timelock.specs.Depth.{depth_of_script, depth_of_scripts}
use Rattle.showing.specs.Scripts.{lines_of_conditions}
use Rattle.showing.proofs.scripts.+conditions.Given as goal

abbrev pub decreases-put_timelock : goal.decreases-put_timelock
decreases-put_timelock l = 3 * depth_of_script (timelock_of l.timelock.now)

abbrev pub decreases-put_members : goal.decreases-put_members
decreases-put_members l = 3 * depth_of_scripts (timelocks_of l.members.now) + 1

abbrev pub decreases-put_indented : goal.decreases-put_indented
decreases-put_indented l = 3 * depth_of_scripts (timelocks_of l.members.now) + 2

abbrev pub invariant-put_members-loop-member : goal.invariant-put_members-loop-member
invariant-put_members-loop-member l =
    string_bytes l.out ++ lines_of_conditions l.margin (timelocks_of (drop l.member-index l.members))
    ≡ string_bytes l.initial.out ++ lines_of_conditions l.margin (timelocks_of l.members)
