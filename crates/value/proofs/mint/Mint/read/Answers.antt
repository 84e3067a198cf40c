use Rattle.std.proofs.Common.{map, arith}
use Rattle.std.proofs.lemmas.Result.{err_from_is_err_and}
use Rattle.value.specs.View.{policy_of}
use Rattle.value.proofs.ValueTexts.{mint_found, mint_refused}
use Rattle.value.proofs.mint.Mint.read.Goals as goal

pub returns-in_err-policies-clause-malformed : goal.returns-in_err-policies-clause-malformed
returns-in_err-policies-clause-malformed c =
    let p = err_from_is_err_and c.from_residual.result c.from_residual.ensures.1 in
    rw (p.1, p.2) (mint_refused c.in_err-policies.field-0.0 c.args.bytes.now c.in_err-policies.ensures.exact)

pub invariant_of-mint : goal.invariant_of-mint
invariant_of-mint c =
    let found = mint_found c.args.bytes.now (map policy_of c.in_ok-policies.policies.items) c.in_ok-policies.rest.now (λ i. omega (arith, c.type_inv.bytes i)) c.in_ok-policies.ensures.exact in
    let spelled = found.spelled in
    record { is_mint = spelled.is_mint; has_text = spelled.spelled.has_text }

pub returns-clause-found : goal.returns-clause-found
returns-clause-found c = mint_found c.args.bytes.now (map policy_of c.in_ok-policies.policies.items) c.in_ok-policies.rest.now (λ i. omega (arith, c.type_inv.bytes i)) c.in_ok-policies.ensures.exact

pub returns-in_err-policies-clause-begins : goal.returns-in_err-policies-clause-begins
returns-in_err-policies-clause-begins c =
    let p = err_from_is_err_and c.from_residual.result c.from_residual.ensures.1 in
    rw (p.1, p.2) c.in_err-policies.ensures.begins
