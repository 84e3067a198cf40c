-- What the loop has appended, and the members that are still to come, are the whole. The measures go down with the
-- nesting.
use Rattle.std.proofs.Common.{◌≡◌, ◌+◌, ◌*◌, ◌++◌, drop, map}
use Rattle.serde_json.specs.View.{view}
use Rattle.timelock.specs.View.{timelock_of, timelocks_of}
use Rattle.timelock.specs.Depth.{depth_of_script, depth_of_scripts}
use Rattle.describing.specs.Scripts.{jsons_of_conditions}
use Rattle.describing.proofs.scripts.+conditions.Given as goal

abbrev pub decreases-condition_json : goal.decreases-condition_json
decreases-condition_json l = 2 * depth_of_script (timelock_of l.timelock.now)

abbrev pub decreases-members_json : goal.decreases-members_json
decreases-members_json l = 2 * depth_of_scripts (timelocks_of l.members.now) + 1

abbrev pub invariant-members_json-loop-member : goal.invariant-members_json-loop-member
invariant-members_json-loop-member l =
    map view l.list.items ++ jsons_of_conditions (timelocks_of (drop l.member-index l.members))
    ≡ jsons_of_conditions (timelocks_of l.members)
