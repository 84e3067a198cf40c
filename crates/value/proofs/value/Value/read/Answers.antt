use Rattle.std.proofs.Common.{arith}
use Rattle.std.proofs.lemmas.Result.{err_from_is_err_and}
use Rattle.value.specs.View.{value_with}
use Rattle.value.proofs.ValueTexts.{value_found, value_refused, value_wants}
use Rattle.value.proofs.value.Value.read.Goals as goal

pub returns-in_err-coin-clause-malformed : goal.returns-in_err-coin-clause-malformed
returns-in_err-coin-clause-malformed c =
    let p = err_from_is_err_and c.from_residual.result c.from_residual.ensures.1 in
    rw (p.1, p.2) (value_refused c.in_err-coin.field-0.0 c.args.bytes.now c.in_err-coin.ensures.exact)

pub invariant_of-value : goal.invariant_of-value
invariant_of-value c =
    let found = value_found c.args.bytes.now (value_with c.in_ok-coin.coin c.in_ok-coin.assets.items) c.in_ok-coin.rest.now (λ i. omega (arith, c.type_inv.bytes i)) c.in_ok-coin.ensures.exact in
    let spelled = found.spelled in
    record { is_value = spelled.is_value; has_text = spelled.spelled.has_text }

pub returns-clause-found : goal.returns-clause-found
returns-clause-found c = value_found c.args.bytes.now (value_with c.in_ok-coin.coin c.in_ok-coin.assets.items) c.in_ok-coin.rest.now (λ i. omega (arith, c.type_inv.bytes i)) c.in_ok-coin.ensures.exact

pub returns-in_err-coin-clause-want : goal.returns-in_err-coin-clause-want
returns-in_err-coin-clause-want c =
    let p = err_from_is_err_and c.from_residual.result c.from_residual.ensures.1 in
    rw (p.1, p.2) (value_wants c.in_err-coin.field-0.0 c.args.bytes.now c.in_err-coin.ensures.begins)

pub returns-in_err-coin-clause-begins : goal.returns-in_err-coin-clause-begins
returns-in_err-coin-clause-begins c =
    let p = err_from_is_err_and c.from_residual.result c.from_residual.ensures.1 in
    rw (p.1, p.2) c.in_err-coin.ensures.begins
