use Rattle.std.proofs.Common.{◌≡◌, Some, subst}
use Rattle.std.specs.Option.{option_map}
use Rattle.model.specs.Rules.{reason_against}
use Rattle.utxo_rules.specs.View.{reason_of}
use Rattle.utxo_rules.specs.Check.{IsCheckFault}
use Rattle.utxo_rules.specs.DetailView.{detail_of}
use Rattle.utxo_rules.proofs.Explained.{if_ok, explained}
use Rattle.utxo_rules.proofs.explaining.explain_late.Goals as goal

pub returns-in-Err-Refused : goal.returns-in-Err-Refused
returns-in-Err-Refused g c =
    let verifies = g.S.SigScheme.verifies in
    let utxo = c.args.utxo.now in
    let t = c.args.checked.now in
    let r = reason_of c.in-Err-Refused.reason in
    if_ok c.late_detail.result (λ found finds params slot early.
    let told : reason_against verifies params utxo slot t ≡ Some r = subst (IsCheckFault verifies params utxo slot t) c.in-Err-Refused.field-0-is (c.in-Err-Refused.ensures.refused params slot early) in
    explained verifies params utxo slot t r (option_map detail_of found) told (finds params slot early)) c.late_detail.ensures
