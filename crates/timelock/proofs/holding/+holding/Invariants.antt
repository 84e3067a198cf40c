-- What each loop has still to ask decides as the whole did. The measures go down with the nesting.
use Rattle.std.proofs.Common.{◌≡◌, ◌+◌, ◌*◌, ◌≤◌, map, drop}
use Rattle.model.specs.Script.{all_hold, one_holds, how_many_hold}
use Rattle.timelock.specs.View.{timelock_of, timelocks_of, key_bytes, interval_of}
use Rattle.timelock.specs.Depth.{depth_of_script, depth_of_scripts}
use Rattle.timelock.proofs.holding.+holding.Given as goal

abbrev pub decreases-is_met : goal.decreases-is_met
decreases-is_met l = 2 * depth_of_script (timelock_of l.timelock.now)

abbrev pub decreases-all : goal.decreases-all
decreases-all l = 2 * depth_of_scripts (timelocks_of l.members.now) + 1

abbrev pub decreases-any : goal.decreases-any
decreases-any l = 2 * depth_of_scripts (timelocks_of l.members.now) + 1

abbrev pub decreases-how_many : goal.decreases-how_many
decreases-how_many l = 2 * depth_of_scripts (timelocks_of l.members.now) + 1

abbrev pub invariant-all-loop-member : goal.invariant-all-loop-member
invariant-all-loop-member l = all_hold (map key_bytes l.keys) (interval_of l.interval) (timelocks_of (drop l.member-index l.members)) ≡ all_hold (map key_bytes l.keys) (interval_of l.interval) (timelocks_of l.members)

abbrev pub invariant-any-loop-member : goal.invariant-any-loop-member
invariant-any-loop-member l = one_holds (map key_bytes l.keys) (interval_of l.interval) (timelocks_of (drop l.member-index l.members)) ≡ one_holds (map key_bytes l.keys) (interval_of l.interval) (timelocks_of l.members)

abbrev pub invariant-how_many-loop-member : goal.invariant-how_many-loop-member
invariant-how_many-loop-member l = (l.count ≤ l.member-index) × (l.count + how_many_hold (map key_bytes l.keys) (interval_of l.interval) (timelocks_of (drop l.member-index l.members)) ≡ how_many_hold (map key_bytes l.keys) (interval_of l.interval) (timelocks_of l.members))
