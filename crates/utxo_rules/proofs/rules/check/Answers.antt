use Rattle.std.proofs.Common.{subst}
use Rattle.model.specs.Transaction.{Transaction}
use Rattle.model.proofs.Results.{if_err}
use Rattle.utxo_rules.specs.View.{params_of}
use Rattle.utxo_rules.specs.declared.check_fault.CheckFault.TheVariants.{Refused}
use Rattle.utxo_rules.specs.Check.{IsCheckFault, PassesEarly}
use Rattle.utxo_rules.proofs.Ends.{accepted_at, refused_at}
use Rattle.utxo_rules.proofs.rules.check.Goals as goal

pub returns-in_err-check_early-clause-refused : goal.returns-in_err-check_early-clause-refused
returns-in_err-check_early-clause-refused g c =
    let verifies = g.S.SigScheme.verifies in
    let params = params_of c.args.params.now in
    let reason = c.in_err-check_early.field-0.0 in
    if_err c.from_residual.result (Refused reason) (IsCheckFault verifies params c.args.utxo.now c.args.slot c.args.checked.now) c.from_residual.ensures.1
    (subst (λ (t : Transaction). IsCheckFault verifies params c.args.utxo.now c.args.slot t (Refused reason)) c.tx.ensures (c.in_err-check_early.ensures.refused verifies))

pub returns-clause-accepted : goal.returns-clause-accepted
returns-clause-accepted g c =
    let verifies = g.S.SigScheme.verifies in
    let params = params_of c.args.params.now in
    let early = subst (PassesEarly verifies params c.args.utxo.now c.args.slot) c.tx.ensures (c.in_ok-check_early.ensures.passed verifies) in
    accepted_at verifies params c.args.utxo.now c.args.slot c.args.checked.now c.check_late.result early c.check_late.ensures.accepted

pub returns-clause-refused : goal.returns-clause-refused
returns-clause-refused g c =
    let verifies = g.S.SigScheme.verifies in
    let params = params_of c.args.params.now in
    let early = subst (PassesEarly verifies params c.args.utxo.now c.args.slot) c.tx.ensures (c.in_ok-check_early.ensures.passed verifies) in
    refused_at verifies params c.args.utxo.now c.args.slot c.args.checked.now c.check_late.result early c.check_late.ensures.refused
