use Rattle.model.proofs.UtxoSums.{after_sum}
use Rattle.model.proofs.Conserved.{assets_change, ada_conserved, accepted_conserves}
use Rattle.model.proofs.rules.value_conserved.Goals as goal

pub returns-clause-change : goal.returns-clause-change
returns-clause-change c = λ utxo t asset is free. after_sum asset utxo t is.inputs_rise free

pub returns-clause-assets : goal.returns-clause-assets
returns-clause-assets c = assets_change

pub returns-clause-ada : goal.returns-clause-ada
returns-clause-ada c = ada_conserved

pub returns-clause-accepted : goal.returns-clause-accepted
returns-clause-accepted c = accepted_conserves
