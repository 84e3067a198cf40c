use Rattle.std.proofs.Common.{map}
use Rattle.std.proofs.lemmas.Result.{err_from_is_err_and}
use Rattle.value.specs.View.{asset_of, policy_of}
use Rattle.value.proofs.Making.{mint_said, no_mint}
use Rattle.value.proofs.mint.Mint.new.Goals as goal

pub invariant_of-result : goal.invariant_of-result
invariant_of-result c =
    let said = c.in_ok-policies_with.ensures.said in
    record { is_mint = said.are_policies; has_text = mint_said (map policy_of c.in_ok-policies_with.field-0.items) said }

pub returns-in_err-policies_with-clause-refused : goal.returns-in_err-policies_with-clause-refused
returns-in_err-policies_with-clause-refused c =
    let p = err_from_is_err_and c.from_residual.result c.from_residual.ensures.1 in
    rw (p.1, p.2) (no_mint (map asset_of c.args.assets.items) c.in_err-policies_with.field-0.0 c.in_err-policies_with.ensures.fault)
