use Rattle.std.proofs.Common.{◌≡◌, ◌<◌, ◌∙◌}
use Rattle.std.proofs.lemmas.Result.{IfOk-weaker}
use Rattle.model.specs.Limits.{number_limit}
use Rattle.model.specs.Utxo.{outputs_of, coin_of}
use Rattle.model.specs.Genesis.{opening_utxo}
use Rattle.ledger.proofs.Openings.{granted_utxo, granted, small_supply}
use Rattle.ledger.proofs.opening.open_utxo.Goals as goal

pub returns-clause-utxo : goal.returns-clause-utxo
returns-clause-utxo c =
    IfOk-weaker c.grant_all.result (λ utxo. utxo ≡ granted_utxo c.outputs.result.now) (λ utxo. utxo ≡ opening_utxo c.args.genesis.now)
    (λ utxo is. is ∙ granted c.outputs.result.now c.args.genesis.now c.outputs.ensures.outputs) c.grant_all.ensures

pub returns-clause-small : goal.returns-clause-small
returns-clause-small c =
    IfOk-weaker c.grant_all.result (λ utxo. utxo ≡ granted_utxo c.outputs.result.now) (λ utxo. coin_of (outputs_of utxo) < number_limit)
    (λ utxo is. small_supply c.args.genesis.now utxo (is ∙ granted c.outputs.result.now c.args.genesis.now c.outputs.ensures.outputs) c.outputs.ensures.ranges) c.grant_all.ensures
