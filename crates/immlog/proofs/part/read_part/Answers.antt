use Rattle.immlog.proofs.Looking.{step_end, step_none}
use Rattle.immlog.proofs.part.read_part.Goals as goal

pub returns-then-gate-ne-OPEN-clause-part : goal.returns-then-gate-ne-OPEN-clause-part
returns-then-gate-ne-OPEN-clause-part g c =
    step_end c.end_here.new.room (g.R.Read.remaining c.args.reader.now) (g.R.Read.remaining c.next_byte.new.reader) (g.R.Read.remaining c.end_here.new.reader) c.in-Some.gate c.in_ok-end_here.field-0 c.if-gate-ne-OPEN.true (rw c.in-Some.is at c.in_ok-gate.ensures) c.in_ok-end_here.ensures.end

pub returns-in_default-clause-part : goal.returns-in_default-clause-part
returns-in_default-clause-part g c =
    step_none c.args.room.now (g.R.Read.remaining c.args.reader.now) (g.R.Read.remaining c.next_byte.new.reader) (g.R.Read.remaining c.next_byte.new.reader) (rw c.in_default.is at c.in_ok-gate.ensures)
