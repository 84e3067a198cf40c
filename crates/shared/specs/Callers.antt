-- What a caller of the code stands for.
use Rattle.std.specs.Prelude.{◌≡◌, [], false}
use Rattle.atomic_table.specs.Seated.{TableId}
use Rattle.shared.specs.Starts.{Start}
use Rattle.model.specs.Journal.{Knowledge}
use Rattle.shared.specs.Arrivals.{arrivals_in}
use Rattle.shared.specs.Heights.{Calls, knowledge_of}
use Rattle.shared.specs.declared.caller_seat.CallerSeat.TheInside as code_seat
use Rattle.shared.specs.declared.caller.Caller.TheInside as code_caller

-- ---- the seat of a caller

abbrev pub seat_view : {B : Type 0} → code_seat.Inside B → Knowledge
seat_view a = knowledge_of a.number a.seat.me.0

-- it is a seat of this word, for the calls of its number
pub record IsSeatOf {B : Type 0} (table : TableId) (start : Start) (a : code_seat.Inside B) : Type 0 where
  pub table_is : a.seat.table_id ≡ table
  pub slots : a.seat.me.1 ≡ []
  pub start_is : a.seat.me.0.start ≡ start
  pub role : a.seat.me.0.role ≡ Calls a.number
  pub right : a.seat.me.0.writes ≡ false

-- ---- a caller

abbrev pub caller_view : {B : Type 0} → code_caller.Inside B → Knowledge
caller_view a = a.seat

-- none of its calls is an arrival
abbrev pub IsCallerInside : {B : Type 0} → code_caller.Inside B → Type 0
IsCallerInside a = arrivals_in a.seat.calls ≡ []
