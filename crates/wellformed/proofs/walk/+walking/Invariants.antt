-- Each loop has walked over `counter` of them, and what holds of those that are left holds of all. The measures go down
-- with the depth, and at one depth from members and entries to each of them, and to the items in them.
use Rattle.std.proofs.Common.{◌+◌, ◌-◌, ◌*◌}
use Rattle.wellformed.proofs.Walking.{LeadsToMembers, LeadsToEntries}
use Rattle.wellformed.proofs.walk.+walking.Given as goal

abbrev pub decreases-item : goal.decreases-item
decreases-item l = 4 * l.depth

abbrev pub decreases-members : goal.decreases-members
decreases-members l = 4 * l.depth + 2

abbrev pub decreases-entries : goal.decreases-entries
decreases-entries l = 4 * l.depth + 2

abbrev pub decreases-entry : goal.decreases-entry
decreases-entry l = 4 * l.depth + 1

abbrev pub invariant-members-loop : goal.invariant-members-loop
invariant-members-loop l = LeadsToMembers l.depth l.count l.bytes (l.count - l.counter) l.rest l.late

abbrev pub invariant-entries-loop : goal.invariant-entries-loop
invariant-entries-loop l = LeadsToEntries l.depth l.count l.bytes l.before (l.count - l.counter) l.rest l.late
