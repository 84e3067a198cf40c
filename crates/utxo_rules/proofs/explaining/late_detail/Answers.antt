use Rattle.std.proofs.Common.{refl, ap}
use Rattle.std.specs.Option.{option_map}
use Rattle.model.specs.Rules.{NotBalanced, OutputExists, BadSignature, MissingKeyWitness, MissingScript, ExtraScript, ScriptFails}
use Rattle.utxo_rules.specs.View.{reason_of}
use Rattle.utxo_rules.specs.DetailView.{detail_of}
use Rattle.utxo_rules.proofs.Explained.{if_ok, found_as}
use Rattle.utxo_rules.proofs.explaining.late_detail.Goals as goal

pub returns-in-NotBalanced : goal.returns-in-NotBalanced
returns-in-NotBalanced g c =
    let verifies = g.S.SigScheme.verifies in
    let utxo = c.args.utxo.now in
    if_ok c.imbalance.result (λ found finds params slot early. found_as verifies params utxo slot c.tx-tx.result.now c.args.checked.now NotBalanced c.args.reason (option_map detail_of found) c.tx-tx.ensures (ap reason_of c.in-NotBalanced.is) (finds verifies params slot)) c.imbalance.ensures

pub returns-in-OutputExists : goal.returns-in-OutputExists
returns-in-OutputExists g c =
    let verifies = g.S.SigScheme.verifies in
    let utxo = c.args.utxo.now in
    λ params slot early. found_as verifies params utxo slot c.tx-tx.result.now c.args.checked.now OutputExists c.args.reason (option_map detail_of c.taken_place.result) c.tx-tx.ensures (ap reason_of c.in-OutputExists.is) (c.taken_place.ensures verifies params slot)

pub returns-in-BadSignature : goal.returns-in-BadSignature
returns-in-BadSignature g c =
    let verifies = g.S.SigScheme.verifies in
    let utxo = c.args.utxo.now in
    λ params slot early. found_as verifies params utxo slot c.args.checked.now c.args.checked.now BadSignature c.args.reason (option_map detail_of c.bad_signature.result) refl (ap reason_of c.in-BadSignature.is) (c.bad_signature.ensures params utxo slot)

pub returns-in-MissingKeyWitness : goal.returns-in-MissingKeyWitness
returns-in-MissingKeyWitness g c =
    let verifies = g.S.SigScheme.verifies in
    let utxo = c.args.utxo.now in
    if_ok c.missing_key.result (λ found finds params slot early. found_as verifies params utxo slot c.args.checked.now c.args.checked.now MissingKeyWitness c.args.reason (option_map detail_of found) refl (ap reason_of c.in-MissingKeyWitness.is) (finds params slot)) c.missing_key.ensures

pub returns-in-MissingScript : goal.returns-in-MissingScript
returns-in-MissingScript g c =
    let verifies = g.S.SigScheme.verifies in
    let utxo = c.args.utxo.now in
    if_ok c.missing_script.result (λ found finds params slot early. found_as verifies params utxo slot c.args.checked.now c.args.checked.now MissingScript c.args.reason (option_map detail_of found) refl (ap reason_of c.in-MissingScript.is) (finds params slot)) c.missing_script.ensures

pub returns-in-ExtraScript : goal.returns-in-ExtraScript
returns-in-ExtraScript g c =
    let verifies = g.S.SigScheme.verifies in
    let utxo = c.args.utxo.now in
    if_ok c.extra_script.result (λ found finds params slot early. found_as verifies params utxo slot c.args.checked.now c.args.checked.now ExtraScript c.args.reason (option_map detail_of found) refl (ap reason_of c.in-ExtraScript.is) (finds params slot)) c.extra_script.ensures

pub returns-in-ScriptFails : goal.returns-in-ScriptFails
returns-in-ScriptFails g c =
    let verifies = g.S.SigScheme.verifies in
    let utxo = c.args.utxo.now in
    λ params slot early. found_as verifies params utxo slot c.args.checked.now c.args.checked.now ScriptFails c.args.reason (option_map detail_of c.failing_script.result) refl (ap reason_of c.in-ScriptFails.is) (c.failing_script.ensures params utxo slot)
