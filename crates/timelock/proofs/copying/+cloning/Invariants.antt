-- The copies that the loop has made and what it has still to copy are the whole. The measures go down with the nesting.
use Rattle.std.proofs.Common.{◌≡◌, ◌+◌, ◌*◌, ◌++◌, drop, map}
use Rattle.timelock.specs.View.{timelock_of, timelocks_of}
use Rattle.timelock.specs.Depth.{depth_of_script, depth_of_scripts}
use Rattle.timelock.proofs.copying.+cloning.Given as goal

abbrev pub decreases-clone_timelock : goal.decreases-clone_timelock
decreases-clone_timelock l = 2 * depth_of_script (timelock_of l.timelock.now)

abbrev pub decreases-clone_members : goal.decreases-clone_members
decreases-clone_members l = 2 * depth_of_scripts (timelocks_of l.members.now) + 1

abbrev pub invariant-clone_members-loop-member : goal.invariant-clone_members-loop-member
invariant-clone_members-loop-member l = map timelock_of l.copies.items ++ map timelock_of (drop l.member-index l.members) ≡ map timelock_of l.members
