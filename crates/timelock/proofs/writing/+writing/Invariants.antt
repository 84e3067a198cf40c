-- What the loop has written and what it has still to write is the whole, and no room was lost. The measures go down with
-- the nesting.
use Rattle.std.proofs.Common.{◌≤◌, ◌+◌, ◌*◌}
use Rattle.std.specs.Prelude.{vec_capacity}
use Rattle.cbor.proofs.ForCallers.{IsListPartWritten}
use Rattle.timelock.specs.View.{timelock_of, timelocks_of}
use Rattle.timelock.proofs.Members.{item_of_timelock}
use Rattle.timelock.specs.Depth.{depth_of_script, depth_of_scripts}
use Rattle.timelock.proofs.writing.+writing.Given as goal

abbrev pub decreases-write_timelock : goal.decreases-write_timelock
decreases-write_timelock l = 3 * depth_of_script (timelock_of l.timelock.now)

abbrev pub decreases-write_list : goal.decreases-write_list
decreases-write_list l = 3 * depth_of_scripts (timelocks_of l.list.now) + 1

abbrev pub decreases-write_members : goal.decreases-write_members
decreases-write_members l = 3 * depth_of_scripts (timelocks_of l.members.now) + 2

abbrev pub invariant-write_list-loop-timelock : goal.invariant-write_list-loop-timelock
invariant-write_list-loop-timelock l = IsListPartWritten item_of_timelock l.initial.out.items l.out.items l.list l.timelock-index × (vec_capacity l.initial.out ≤ vec_capacity l.out)
