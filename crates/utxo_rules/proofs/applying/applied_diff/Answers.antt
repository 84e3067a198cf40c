use Rattle.std.proofs.Common.{◌+◌, refl, ap, ◌∙◌}
use Rattle.model.specs.Utxo.{Utxo, outputs_of, coin_of}
use Rattle.model.proofs.Conserved.{accepted_conserves}
use Rattle.utxo_rules.proofs.Pairs as pairs
use Rattle.utxo_rules.proofs.Changing.{the_diff}
use Rattle.utxo_rules.proofs.applying.applied_diff.Goals as goal

pub returns-clause-after : goal.returns-clause-after
returns-clause-after c =
    pairs.applied c.args.utxo c.args.utxo c.take_all.new.utxo c.place.new.utxo c.args.tx.now c.inputs.result.now c.outputs.result.now c.id-id.result.bytes
    refl c.inputs.ensures c.in_ok-spent.ensures.after c.outputs.ensures c.id-id.ensures.is c.in_ok-place.ensures

pub returns-clause-diff : goal.returns-clause-diff
returns-clause-diff c =
    the_diff c.args.utxo c.args.tx.now c.in_ok-spent.spent.items c.inputs.result.now c.outputs-2.result.now c.id-id.result.bytes c.fee.result c.in_ok-spent.ensures.taken c.inputs.ensures c.id-id.ensures.is c.outputs-2.ensures c.fee.ensures

pub returns-clause-conserves : goal.returns-clause-conserves
returns-clause-conserves c = λ verifies params slot accepted.
    let whole =
    pairs.applied c.args.utxo c.args.utxo c.take_all.new.utxo c.place.new.utxo c.args.tx.now c.inputs.result.now c.outputs.result.now c.id-id.result.bytes
    refl c.inputs.ensures c.in_ok-spent.ensures.after c.outputs.ensures c.id-id.ensures.is c.in_ok-place.ensures in
    ap (λ (u : Utxo). coin_of (outputs_of u) + c.args.tx.now.fee) whole ∙ accepted_conserves verifies params c.args.utxo slot c.args.tx.now c.id-id.ensures.spelled.shape accepted
