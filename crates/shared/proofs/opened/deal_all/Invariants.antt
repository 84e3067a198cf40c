use Rattle.std.proofs.Common.{◌≡◌, []}
use Rattle.shared.specs.Heights.{first_view, Deals}
use Rattle.shared.specs.Opening.{newcomers}
use Rattle.shared.proofs.opened.deal_all.Given as goal

-- the seat has dealt the numbers so far, to callers who have seen nothing
abbrev pub invariant-loop-number : goal.invariant-loop-number
invariant-loop-number g l =
    (l.seat.table_id ≡ l.initial.seat.table_id)
    × (l.seat.me ≡ (record (first_view g.B.Room.start) { role = Deals l.number }, []))
    × (l.all.items ≡ newcomers l.number)
