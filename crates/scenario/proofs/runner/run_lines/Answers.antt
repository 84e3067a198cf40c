use Rattle.std.proofs.Common.{refl, sym, ◌∙◌, vec_len, rules, arith}
use Rattle.std.proofs.lemmas.Result.{err_from_is_err_and}
use Rattle.model.specs.Ledger.{network_on}
use Rattle.chain_core.specs.Held.{network_held}
use Rattle.scenario.proofs.Runs.{opened, stepped, stopped, not_written, not_read, ended, nothing_remains, unended, next_of, not_empty, is_nil, ran, ran_on, ran_stopped}
use Rattle.scenario.proofs.WrittenParts.{appends_none}
use Rattle.scenario.proofs.runner.run_lines.Goals as goal

pub loop-number-init : goal.loop-number-init
loop-number-init g c = opened c.args.options g.S.SigScheme.verifies (network_held c.args.session.now.core g.S.SigScheme.verifies) c.args.session.now (g.R.Read.remaining c.args.reader.now) (g.W.Write.contents c.args.writer.now) c.requires.names c.requires.indexes refl (appends_none (g.W.Write.contents c.args.writer.now))

-- a line that isn't run
pub returns-in-Err-clause-fault : goal.returns-in-Err-clause-fault
returns-in-Err-clause-fault g c = rw c.line_fault.ensures
    (stopped c.args.options g.S.SigScheme.verifies c.args.session.now.core c.loop-number.session c.obey.new.self c.loop-number.before c.loop-number.number (g.R.Read.remaining c.args.reader.now) (g.R.Read.remaining c.loop-number.reader) (g.R.Read.remaining c.next_line.new.reader)
    (g.W.Write.contents c.args.writer.now) (g.W.Write.contents c.loop-number.writer) c.deref.result.now c.in-Err.stop c.loop-number.invariant
    (next_of (g.R.Read.remaining c.args.reader.now) (g.R.Read.remaining c.loop-number.reader) (g.R.Read.remaining c.next_line.new.reader) c.loop-number.invariant.done c.in_ok-line.line.items c.deref.result.now
    c.loop-number.invariant.read c.deref.ensures.value c.in_ok-line.ensures.line)
    (not_empty c.deref.result.now (vec_len c.in_ok-line.line) c.deref.ensures.len (sym c.is_empty.ensures ∙ c.if-is_empty.false)) c.in-Err.ensures.obeyed)

pub returns-in-Err-clause-run : goal.returns-in-Err-clause-run
returns-in-Err-clause-run g c = ran_stopped c.args.options g.S.SigScheme.verifies c.args.session.now.core c.loop-number.session c.obey.new.self c.loop-number.before c.loop-number.number (g.R.Read.remaining c.args.reader.now) (g.R.Read.remaining c.loop-number.reader) (g.W.Write.contents c.args.writer.now) (g.W.Write.contents c.loop-number.writer) c.deref.result.now c.in-Err.stop c.loop-number.invariant c.in-Err.ensures.obeyed

pub returns-in-Err-clause-network : goal.returns-in-Err-clause-network
returns-in-Err-clause-network g c = (λ j. network_on (c.in-Err.ensures.start.genesis j) g.S.SigScheme.verifies (c.in-Err.ensures.start.opened j)) ∙ c.loop-number.invariant.same_network

-- a line that isn't written
pub returns-in-Err-write_all-clause-fault : goal.returns-in-Err-write_all-clause-fault
returns-in-Err-write_all-clause-fault g c =
    not_written c.args.options g.S.SigScheme.verifies c.args.session.now.core c.loop-number.session c.obey.new.self c.loop-number.before c.loop-number.number (g.R.Read.remaining c.args.reader.now) (g.R.Read.remaining c.loop-number.reader) (g.R.Read.remaining c.next_line.new.reader)
    (g.W.Write.contents c.args.writer.now) (g.W.Write.contents c.loop-number.writer) (g.W.Write.contents c.write_all.new.writer) c.deref.result.now c.in-Ok.printed c.loop-number.invariant
    (next_of (g.R.Read.remaining c.args.reader.now) (g.R.Read.remaining c.loop-number.reader) (g.R.Read.remaining c.next_line.new.reader) c.loop-number.invariant.done c.in_ok-line.line.items c.deref.result.now
    c.loop-number.invariant.read c.deref.ensures.value c.in_ok-line.ensures.line)
    (not_empty c.deref.result.now (vec_len c.in_ok-line.line) c.deref.ensures.len (sym c.is_empty.ensures ∙ c.if-is_empty.false)) c.in-Ok.ensures.obeyed (rw c.deref-in-loop-number.ensures.value at c.in-Err-write_all.ensures.err)

pub returns-in-Err-write_all-clause-run : goal.returns-in-Err-write_all-clause-run
returns-in-Err-write_all-clause-run g c = ran_on c.args.options g.S.SigScheme.verifies c.args.session.now.core c.loop-number.session c.obey.new.self c.loop-number.before c.loop-number.number (g.R.Read.remaining c.args.reader.now) (g.R.Read.remaining c.loop-number.reader) (g.W.Write.contents c.args.writer.now) (g.W.Write.contents c.loop-number.writer) c.deref.result.now c.in-Ok.printed c.loop-number.invariant c.in-Ok.ensures.obeyed

pub returns-in-Err-write_all-clause-network : goal.returns-in-Err-write_all-clause-network
returns-in-Err-write_all-clause-network g c = (λ j. network_on (c.in-Ok.ensures.start.genesis j) g.S.SigScheme.verifies (c.in-Ok.ensures.start.opened j)) ∙ c.loop-number.invariant.same_network

-- the next line
pub loop-number-preserved : goal.loop-number-preserved
loop-number-preserved g c = rw (c.len.ensures, ← c.deref.ensures.len)
    (stepped c.args.options g.S.SigScheme.verifies (network_held c.args.session.now.core g.S.SigScheme.verifies) c.args.session.now.core c.loop-number.session c.obey.new.self c.loop-number.before c.loop-number.number (g.R.Read.remaining c.args.reader.now) (g.R.Read.remaining c.loop-number.reader) (g.R.Read.remaining c.next_line.new.reader)
    (g.W.Write.contents c.args.writer.now) (g.W.Write.contents c.loop-number.writer) (g.W.Write.contents c.write_all.new.writer) c.deref.result.now c.in-Ok.printed c.loop-number.invariant
    (next_of (g.R.Read.remaining c.args.reader.now) (g.R.Read.remaining c.loop-number.reader) (g.R.Read.remaining c.next_line.new.reader) c.loop-number.invariant.done c.in_ok-line.line.items c.deref.result.now
    c.loop-number.invariant.read c.deref.ensures.value c.in_ok-line.ensures.line)
    (not_empty c.deref.result.now (vec_len c.in_ok-line.line) c.deref.ensures.len (sym c.is_empty.ensures ∙ c.if-is_empty.false)) c.in-Ok.ensures.obeyed (λ j. network_on (c.in-Ok.ensures.start.genesis j) g.S.SigScheme.verifies (c.in-Ok.ensures.start.opened j)) (omega (arith, c.in-Ok.ensures.size)) (rw c.deref-in-loop-number.ensures.value at c.in_default-write_all.ensures.ok))

-- a line that isn't read
pub returns-in_err-line-clause-fault : goal.returns-in_err-line-clause-fault
returns-in_err-line-clause-fault g c =
    let p = err_from_is_err_and c.from_residual.result c.from_residual.ensures.1 in
    rw (p.1, p.2) (not_read c.args.options g.S.SigScheme.verifies c.args.session.now.core c.loop-number.session c.loop-number.before c.loop-number.number (g.R.Read.remaining c.args.reader.now) (g.R.Read.remaining c.loop-number.reader) (g.R.Read.remaining c.next_line.new.reader)
    (g.W.Write.contents c.args.writer.now) (g.W.Write.contents c.loop-number.writer) c.in_err-line.field-0.0 c.loop-number.invariant c.in_err-line.ensures.fault)

pub returns-in_err-line-clause-run : goal.returns-in_err-line-clause-run
returns-in_err-line-clause-run g c = ran c.args.options g.S.SigScheme.verifies c.args.session.now.core c.loop-number.session c.loop-number.before c.loop-number.number (g.R.Read.remaining c.args.reader.now) (g.R.Read.remaining c.loop-number.reader) (g.W.Write.contents c.args.writer.now) (g.W.Write.contents c.loop-number.writer) c.loop-number.invariant

pub returns-in_err-line-clause-network : goal.returns-in_err-line-clause-network
returns-in_err-line-clause-network g c = c.loop-number.invariant.same_network

-- no line more
pub returns-then-is_empty-clause-ok : goal.returns-then-is_empty-clause-ok
returns-then-is_empty-clause-ok g c =
    ended c.args.options g.S.SigScheme.verifies c.args.session.now.core c.loop-number.session c.loop-number.before c.loop-number.number (g.R.Read.remaining c.args.reader.now) (g.R.Read.remaining c.loop-number.reader) (g.R.Read.remaining c.next_line.new.reader)
    (g.W.Write.contents c.args.writer.now) (g.W.Write.contents c.loop-number.writer) c.in_ok-line.line.items c.open_line.result c.loop-number.invariant
    (next_of (g.R.Read.remaining c.args.reader.now) (g.R.Read.remaining c.loop-number.reader) (g.R.Read.remaining c.next_line.new.reader) c.loop-number.invariant.done c.in_ok-line.line.items c.in_ok-line.line.items
    c.loop-number.invariant.read refl c.in_ok-line.ensures.line)
    (is_nil c.in_ok-line.line.items (vec_len c.in_ok-line.line) (search rules) (sym c.is_empty.ensures ∙ c.if-is_empty.true))
    c.open_line.ensures c.in_default.not-Some

pub returns-then-is_empty-clause-rest : goal.returns-then-is_empty-clause-rest
returns-then-is_empty-clause-rest g c =
    nothing_remains (g.R.Read.remaining c.args.reader.now) (g.R.Read.remaining c.next_line.new.reader) c.loop-number.invariant.done c.in_ok-line.line.items
    (next_of (g.R.Read.remaining c.args.reader.now) (g.R.Read.remaining c.loop-number.reader) (g.R.Read.remaining c.next_line.new.reader) c.loop-number.invariant.done c.in_ok-line.line.items c.in_ok-line.line.items
    c.loop-number.invariant.read refl c.in_ok-line.ensures.line)
    (is_nil c.in_ok-line.line.items (vec_len c.in_ok-line.line) (search rules) (sym c.is_empty.ensures ∙ c.if-is_empty.true))

pub returns-then-is_empty-clause-run : goal.returns-then-is_empty-clause-run
returns-then-is_empty-clause-run g c = ran c.args.options g.S.SigScheme.verifies c.args.session.now.core c.loop-number.session c.loop-number.before c.loop-number.number (g.R.Read.remaining c.args.reader.now) (g.R.Read.remaining c.loop-number.reader) (g.W.Write.contents c.args.writer.now) (g.W.Write.contents c.loop-number.writer) c.loop-number.invariant

pub returns-then-is_empty-clause-network : goal.returns-then-is_empty-clause-network
returns-then-is_empty-clause-network g c = c.loop-number.invariant.same_network

-- no line more within a transaction
pub returns-in-Some-clause-fault : goal.returns-in-Some-clause-fault
returns-in-Some-clause-fault g c = rw c.unended.ensures
    (unended c.args.options g.S.SigScheme.verifies c.args.session.now.core c.loop-number.session c.loop-number.before c.loop-number.number (g.R.Read.remaining c.args.reader.now) (g.R.Read.remaining c.loop-number.reader) (g.R.Read.remaining c.next_line.new.reader)
    (g.W.Write.contents c.args.writer.now) (g.W.Write.contents c.loop-number.writer) c.in_ok-line.line.items c.in-Some.begun c.loop-number.invariant
    (next_of (g.R.Read.remaining c.args.reader.now) (g.R.Read.remaining c.loop-number.reader) (g.R.Read.remaining c.next_line.new.reader) c.loop-number.invariant.done c.in_ok-line.line.items c.in_ok-line.line.items
    c.loop-number.invariant.read refl c.in_ok-line.ensures.line)
    (is_nil c.in_ok-line.line.items (vec_len c.in_ok-line.line) (search rules) (sym c.is_empty.ensures ∙ c.if-is_empty.true))
    c.in-Some.ensures)

pub returns-in-Some-clause-run : goal.returns-in-Some-clause-run
returns-in-Some-clause-run g c = ran c.args.options g.S.SigScheme.verifies c.args.session.now.core c.loop-number.session c.loop-number.before c.loop-number.number (g.R.Read.remaining c.args.reader.now) (g.R.Read.remaining c.loop-number.reader) (g.W.Write.contents c.args.writer.now) (g.W.Write.contents c.loop-number.writer) c.loop-number.invariant

pub returns-in-Some-clause-network : goal.returns-in-Some-clause-network
returns-in-Some-clause-network g c = c.loop-number.invariant.same_network
