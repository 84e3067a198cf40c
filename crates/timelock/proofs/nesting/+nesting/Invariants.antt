-- The deepest so far and those that the loop has still to see nest as deep as all. The measures go down with the nesting.
use Rattle.std.proofs.Common.{◌≡◌, ◌+◌, ◌*◌, max, drop}
use Rattle.model.specs.Cbor.{items_nesting}
use Rattle.model.specs.Script.{items_of_scripts}
use Rattle.timelock.specs.View.{timelock_of, timelocks_of}
use Rattle.timelock.specs.Depth.{depth_of_script, depth_of_scripts}
use Rattle.timelock.proofs.nesting.+nesting.Given as goal

abbrev pub decreases-nesting_of : goal.decreases-nesting_of
decreases-nesting_of l = 2 * depth_of_script (timelock_of l.timelock.now)

abbrev pub decreases-deepest : goal.decreases-deepest
decreases-deepest l = 2 * depth_of_scripts (timelocks_of l.members.now) + 1

abbrev pub invariant-deepest-loop-member : goal.invariant-deepest-loop-member
invariant-deepest-loop-member l = max l.deepest (items_nesting (items_of_scripts (timelocks_of (drop l.member-index l.members)))) ≡ items_nesting (items_of_scripts (timelocks_of l.members))
