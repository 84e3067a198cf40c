use Rattle.std.proofs.lemmas.Result.{err_from_is_err_and}
use Rattle.tx.proofs.TransactionTexts.{whole_refused, whole_wants, whole_found, more_follows, not_empty}
use Rattle.tx.proofs.tx.Tx.decode.Goals as goal

pub returns-in_err-tx-clause-malformed : goal.returns-in_err-tx-clause-malformed
returns-in_err-tx-clause-malformed c =
    let p = err_from_is_err_and c.from_residual.result c.from_residual.ensures.1 in
    rw (p.1, p.2) (whole_refused c.in_err-tx.field-0.0 c.args.bytes.now c.in_err-tx.ensures.malformed)

pub returns-then-not-is_empty-clause-malformed : goal.returns-then-not-is_empty-clause-malformed
returns-then-not-is_empty-clause-malformed c = more_follows c.args.bytes.now c.in_ok-tx.tx c.in_ok-tx.rest.now (not_empty c.in_ok-tx.rest.now c.is_empty.result c.is_empty.ensures c.if-not-is_empty.true) c.in_ok-tx.ensures.found

pub returns-in_err-tx-clause-want : goal.returns-in_err-tx-clause-want
returns-in_err-tx-clause-want c =
    let p = err_from_is_err_and c.from_residual.result c.from_residual.ensures.1 in
    rw (p.1, p.2) (whole_wants c.in_err-tx.field-0.0 c.args.bytes.now c.in_err-tx.ensures.want)

pub returns-clause-found : goal.returns-clause-found
returns-clause-found c = whole_found c.in_ok-tx.tx c.args.bytes.now c.in_ok-tx.rest.now c.is_empty.result c.is_empty.ensures c.if-not-is_empty.false c.in_ok-tx.ensures.found

pub returns-in_err-tx-clause-begins : goal.returns-in_err-tx-clause-begins
returns-in_err-tx-clause-begins c =
    let p = err_from_is_err_and c.from_residual.result c.from_residual.ensures.1 in
    rw (p.1, p.2) c.in_err-tx.ensures.begins
