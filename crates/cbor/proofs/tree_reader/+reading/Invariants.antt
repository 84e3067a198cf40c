-- Each loop has read `counter` of them, and what is left reads to the rest of the whole. The measures go down with the
-- nesting, and at one depth from arrays and maps to what is in them, and to its items.
use Rattle.std.proofs.Common.{◌≡◌, [], ◌+◌, ◌-◌, ◌*◌}
use Rattle.cbor.specs.Tree.{members_of, entries_of}
use Rattle.cbor.specs.ItemReading.{item_at, items_at, pairs_at}
use Rattle.cbor.proofs.TreeLoops.{with_members, with_entries}
use Rattle.cbor.proofs.tree_reader.+reading.Given as goal

abbrev pub decreases-entries : goal.decreases-entries
decreases-entries l = 4 * l.depth + 2

abbrev pub decreases-entry : goal.decreases-entry
decreases-entry l = 4 * l.depth + 1

abbrev pub decreases-item : goal.decreases-item
decreases-item l = 4 * l.depth

abbrev pub decreases-array : goal.decreases-array
decreases-array l = 4 * l.depth + 3

abbrev pub decreases-map : goal.decreases-map
decreases-map l = 4 * l.depth + 3

abbrev pub decreases-members : goal.decreases-members
decreases-members l = 4 * l.depth + 2

abbrev pub invariant-entries-loop : goal.invariant-entries-loop
invariant-entries-loop l = with_entries (entries_of l.entries.items) (pairs_at (item_at l.depth) l.before (l.count - l.counter) l.rest) ≡ pairs_at (item_at l.depth) [] l.count l.bytes

abbrev pub invariant-members-loop : goal.invariant-members-loop
invariant-members-loop l = with_members (members_of l.members.items) (items_at (item_at l.depth) (l.count - l.counter) l.rest) ≡ items_at (item_at l.depth) l.count l.bytes
