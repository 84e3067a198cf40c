use Rattle.scenario.proofs.Runs.{line_into, part_into}
use Rattle.scenario.proofs.runner.next_line.Goals as goal

pub returns-in-Ok-clause-line : goal.returns-in-Ok-clause-line
returns-in-Ok-clause-line g c = line_into (g.R.Read.remaining c.args.reader.now) (g.R.Read.remaining c.read_until.new.self) c.new-line.result.items c.read_until.new.buf.items c.new-line.ensures.items c.in-Ok.ensures.bytes c.in-Ok.ensures.rest

-- a line that isn't read
pub returns-in-Err-clause-fault : goal.returns-in-Err-clause-fault
returns-in-Err-clause-fault g c = record {
  piece = _;
  is_piece = c.in-Err.ensures.stops;
  read = c.in-Err.ensures.none_lost;
  fault = part_into c.new-line.result.items c.read_until.new.buf.items c.deref.result.now c.read_fault.result c.new-line.ensures.items c.deref.ensures.value c.read_fault.ensures;
}
