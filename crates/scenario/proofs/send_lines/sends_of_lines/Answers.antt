use Rattle.std.proofs.Common.{◌≡◌, ◌∙◌, None, Some, map, refl, rules, sym, vec_len, arith}
use Rattle.std.proofs.lemmas.Result.{err_from_is_err_and}
use Rattle.scenario.specs.SendView.{sent_of}
use Rattle.scenario.proofs.Runs.{next_of, not_empty, is_nil, nothing_remains, has_bytes}
use Rattle.scenario.proofs.SendRuns.{ended, not_read, read_not_written, stepped, stop_not_written, stopped, unended}
use Rattle.scenario.proofs.send_lines.sends_of_lines.Goals as goal

-- a line that isn't read
pub returns-in_err-line-clause-fault : goal.returns-in_err-line-clause-fault
returns-in_err-line-clause-fault g c =
    let p = err_from_is_err_and c.from_residual.result c.from_residual.ensures.1 in
    rw (p.1, p.2) (not_read c.args.peers c.args.names.now c.loop-number.names (map sent_of c.loop-number.sends.items) c.loop-number.before c.loop-number.number (g.R.Read.remaining c.args.reader.now) (g.R.Read.remaining c.loop-number.reader) (g.R.Read.remaining c.next_line.new.reader) c.in_err-line.field-0.0 c.loop-number.invariant.reads c.in_err-line.ensures.fault)

pub returns-in_err-line-clause-unwritten : goal.returns-in_err-line-clause-unwritten
returns-in_err-line-clause-unwritten g c =
    let p = err_from_is_err_and c.from_residual.result c.from_residual.ensures.1 in
    rw (p.1, p.2) (read_not_written (g.R.Read.remaining c.loop-number.reader) (g.R.Read.remaining c.next_line.new.reader) c.in_err-line.field-0.0 c.in_err-line.ensures.fault)

-- no line more within a transaction
pub returns-in-Some-clause-fault : goal.returns-in-Some-clause-fault
returns-in-Some-clause-fault g c = rw c.unended.ensures
    (unended c.args.peers c.args.names.now c.loop-number.names (map sent_of c.loop-number.sends.items) c.loop-number.before c.loop-number.number (g.R.Read.remaining c.args.reader.now) (g.R.Read.remaining c.loop-number.reader) (g.R.Read.remaining c.next_line.new.reader) c.in_ok-line.line.items c.in-Some.begun c.loop-number.invariant.reads
    (next_of (g.R.Read.remaining c.args.reader.now) (g.R.Read.remaining c.loop-number.reader) (g.R.Read.remaining c.next_line.new.reader) c.loop-number.invariant.reads.done c.in_ok-line.line.items c.in_ok-line.line.items
    c.loop-number.invariant.reads.read refl c.in_ok-line.ensures.line)
    (is_nil c.in_ok-line.line.items (vec_len c.in_ok-line.line) (search rules) (sym c.is_empty.ensures ∙ c.if-is_empty.true))
    c.in-Some.ensures)

pub returns-in-Some-clause-unwritten : goal.returns-in-Some-clause-unwritten
returns-in-Some-clause-unwritten g c = rw c.unended.ensures (λ w. cc)

-- no line more
pub returns-in-None-clause-sends : goal.returns-in-None-clause-sends
returns-in-None-clause-sends g c =
    ended c.args.peers c.args.names.now c.loop-number.names (map sent_of c.loop-number.sends.items) c.loop-number.before c.loop-number.number (g.R.Read.remaining c.args.reader.now) (g.R.Read.remaining c.loop-number.reader) (g.R.Read.remaining c.next_line.new.reader) c.in_ok-line.line.items c.open_line.result c.loop-number.invariant.reads
    (next_of (g.R.Read.remaining c.args.reader.now) (g.R.Read.remaining c.loop-number.reader) (g.R.Read.remaining c.next_line.new.reader) c.loop-number.invariant.reads.done c.in_ok-line.line.items c.in_ok-line.line.items
    c.loop-number.invariant.reads.read refl c.in_ok-line.ensures.line)
    (is_nil c.in_ok-line.line.items (vec_len c.in_ok-line.line) (search rules) (sym c.is_empty.ensures ∙ c.if-is_empty.true))
    c.open_line.ensures (λ n some. let bad : None ≡ Some n = sym c.in-None.is ∙ some in cc)

pub returns-in-None-clause-rest : goal.returns-in-None-clause-rest
returns-in-None-clause-rest g c =
    nothing_remains (g.R.Read.remaining c.args.reader.now) (g.R.Read.remaining c.next_line.new.reader) c.loop-number.invariant.reads.done c.in_ok-line.line.items
    (next_of (g.R.Read.remaining c.args.reader.now) (g.R.Read.remaining c.loop-number.reader) (g.R.Read.remaining c.next_line.new.reader) c.loop-number.invariant.reads.done c.in_ok-line.line.items c.in_ok-line.line.items
    c.loop-number.invariant.reads.read refl c.in_ok-line.ensures.line)
    (is_nil c.in_ok-line.line.items (vec_len c.in_ok-line.line) (search rules) (sym c.is_empty.ensures ∙ c.if-is_empty.true))

-- a line that isn't obeyed
pub returns-in-Err-clause-fault : goal.returns-in-Err-clause-fault
returns-in-Err-clause-fault g c = rw c.line_fault.ensures
    (stopped c.args.peers c.args.names.now c.loop-number.names c.obey.new.names (map sent_of c.loop-number.sends.items) (map sent_of c.obey.new.sends.items) c.loop-number.before c.loop-number.number (g.R.Read.remaining c.args.reader.now) (g.R.Read.remaining c.loop-number.reader) (g.R.Read.remaining c.next_line.new.reader)
    c.deref.result.now c.in-Err.stop c.loop-number.invariant.reads
    (next_of (g.R.Read.remaining c.args.reader.now) (g.R.Read.remaining c.loop-number.reader) (g.R.Read.remaining c.next_line.new.reader) c.loop-number.invariant.reads.done c.in_ok-line.line.items c.deref.result.now
    c.loop-number.invariant.reads.read c.deref.ensures.value c.in_ok-line.ensures.line)
    (not_empty c.deref.result.now (vec_len c.in_ok-line.line) c.deref.ensures.len (sym c.is_empty.ensures ∙ c.if-is_empty.false)) c.in-Err.ensures.sends)

pub returns-in-Err-clause-unwritten : goal.returns-in-Err-clause-unwritten
returns-in-Err-clause-unwritten g c = rw c.line_fault.ensures (stop_not_written c.loop-number.number c.in-Err.stop)

-- the next line
pub loop-number-preserved : goal.loop-number-preserved
loop-number-preserved g c =
    let line = c.deref.result.now in
    let some = not_empty line (vec_len c.in_ok-line.line) c.deref.ensures.len (sym c.is_empty.ensures ∙ c.if-is_empty.false) in
    let filled = has_bytes line some in
    let limit = c.in_default.ensures.size in
    let before = c.loop-number.invariant.counted in
    rw (c.len.ensures, ← c.deref.ensures.len)
    (record {
      counted = omega (arith, filled, before);
      size = omega (arith, limit);
      peers = c.obey.ensures.peers c.loop-number.invariant.peers;
      reads = stepped c.args.peers c.args.names.now c.loop-number.names c.obey.new.names (map sent_of c.loop-number.sends.items) (map sent_of c.obey.new.sends.items) c.loop-number.before c.loop-number.number (g.R.Read.remaining c.args.reader.now) (g.R.Read.remaining c.loop-number.reader) (g.R.Read.remaining c.next_line.new.reader)
          line tt c.loop-number.invariant.reads
          (next_of (g.R.Read.remaining c.args.reader.now) (g.R.Read.remaining c.loop-number.reader) (g.R.Read.remaining c.next_line.new.reader) c.loop-number.invariant.reads.done c.in_ok-line.line.items line
          c.loop-number.invariant.reads.read c.deref.ensures.value c.in_ok-line.ensures.line)
          some c.in_default.ensures.sends;
    })
