-- The loop has read `counter` of them, and what is left reads to the rest of the whole. The measures go down with the
-- depth, and at one depth from what stands after a kind to an array, to its members, and to each of them.
use Rattle.std.proofs.Common.{◌≡◌, ◌+◌, ◌-◌, ◌*◌, map}
use Rattle.cbor.specs.Shapes.{list_at}
use Rattle.cbor.proofs.ForCallers.{with_front}
use Rattle.timelock.specs.View.{timelock_of}
use Rattle.timelock.specs.Reading.{script_at}
use Rattle.timelock.proofs.reading.+reading.Given as goal

abbrev pub decreases-timelock : goal.decreases-timelock
decreases-timelock l = 4 * l.depth

abbrev pub decreases-list : goal.decreases-list
decreases-list l = 4 * l.depth + 1

abbrev pub decreases-members : goal.decreases-members
decreases-members l = 4 * l.depth + 2

abbrev pub decreases-of_kind : goal.decreases-of_kind
decreases-of_kind l = 4 * l.depth + 3

abbrev pub invariant-list-loop : goal.invariant-list-loop
invariant-list-loop l = with_front (map timelock_of l.list.items) (list_at (script_at l.depth) (l.count - l.counter) l.rest) ≡ list_at (script_at l.depth) l.count l.bytes
