use Rattle.std.proofs.lemmas.Result.{err_from_is_err_and}
use Rattle.timelock.proofs.ScriptClauses.{whole_refused, whole_wants, more_follows, not_empty}
use Rattle.timelock.proofs.script.Script.decode.Goals as goal

pub returns-in_err-script-clause-malformed : goal.returns-in_err-script-clause-malformed
returns-in_err-script-clause-malformed c =
    let p = err_from_is_err_and c.from_residual.result c.from_residual.ensures.1 in
    rw (p.1, p.2) (whole_refused c.in_err-script.field-0.0 c.args.bytes.now c.in_err-script.ensures.malformed)

pub returns-then-not-is_empty-clause-malformed : goal.returns-then-not-is_empty-clause-malformed
returns-then-not-is_empty-clause-malformed c = more_follows c.args.bytes.now c.in_ok-script.script c.in_ok-script.rest.now (not_empty c.in_ok-script.rest.now c.is_empty.result c.is_empty.ensures c.if-not-is_empty.true) c.in_ok-script.ensures.found

pub returns-in_err-script-clause-want : goal.returns-in_err-script-clause-want
returns-in_err-script-clause-want c =
    let p = err_from_is_err_and c.from_residual.result c.from_residual.ensures.1 in
    rw (p.1, p.2) (whole_wants c.in_err-script.field-0.0 c.args.bytes.now c.in_err-script.ensures.want)

pub returns-in_err-script-clause-begins : goal.returns-in_err-script-clause-begins
returns-in_err-script-clause-begins c =
    let p = err_from_is_err_and c.from_residual.result c.from_residual.ensures.1 in
    rw (p.1, p.2) c.in_err-script.ensures.begins
