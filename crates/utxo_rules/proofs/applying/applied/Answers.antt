use Rattle.std.proofs.Common.{◌+◌, refl, ap, ◌∙◌}
use Rattle.model.specs.Utxo.{Utxo, outputs_of, coin_of}
use Rattle.model.proofs.Conserved.{accepted_conserves}
use Rattle.utxo_rules.proofs.Pairs as pairs
use Rattle.utxo_rules.proofs.applying.applied.Goals as goal

pub returns-clause-ok : goal.returns-clause-ok
returns-clause-ok c =
    pairs.applied c.args.utxo c.args.utxo c.spend.new.utxo c.place.new.utxo c.args.tx.now c.inputs.result.now c.outputs.result.now c.id.result.bytes
    refl c.inputs.ensures c.in_ok-spend.ensures c.outputs.ensures c.id.ensures.is c.in_ok-place.ensures

pub returns-clause-conserves : goal.returns-clause-conserves
returns-clause-conserves c = λ verifies params slot accepted.
    let whole =
    pairs.applied c.args.utxo c.args.utxo c.spend.new.utxo c.place.new.utxo c.args.tx.now c.inputs.result.now c.outputs.result.now c.id.result.bytes
    refl c.inputs.ensures c.in_ok-spend.ensures c.outputs.ensures c.id.ensures.is c.in_ok-place.ensures in
    ap (λ (u : Utxo). coin_of (outputs_of u) + c.args.tx.now.fee) whole ∙ accepted_conserves verifies params c.args.utxo slot c.args.tx.now c.id.ensures.spelled.shape accepted
