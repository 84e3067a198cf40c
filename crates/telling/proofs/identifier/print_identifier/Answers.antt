use Rattle.telling.proofs.Told.{id_printed}
use Rattle.telling.proofs.identifier.print_identifier.Goals as goal

pub returns-clause-printed : goal.returns-clause-printed
returns-clause-printed g c = id_printed c.args.kind c.args.bytes.now c.in_ok-line.line.items c.deref.result.now (g.W.Write.contents c.args.out.now) (g.W.Write.contents c.write_line.new.out) c.in_ok-line.ensures.line c.deref.ensures.value c.in_ok-write_line.ensures.ok

pub returns-clause-none : goal.returns-clause-none
returns-clause-none g c = λ none. absurd (none c.in_ok-line.ensures.line.id c.in_ok-line.ensures.line.is_id)

pub returns-in_err-write_line-clause-none : goal.returns-in_err-write_line-clause-none
returns-in_err-write_line-clause-none g c = λ none. absurd (none c.in_ok-line.ensures.line.id c.in_ok-line.ensures.line.is_id)
