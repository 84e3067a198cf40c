use Rattle.utxo_rules.proofs.Pairs.{one_without, all_without}
use Rattle.utxo_rules.proofs.applying.spend.Goals as goal

pub loop-input-preserved : goal.loop-input-preserved
loop-input-preserved c = one_without c.args.utxo.now c.loop-input.utxo c.remove.new.self c.args.inputs.now c.loop-input.input-index c.input-item.result c.loop-input-test.true c.input-item.is c.in_ok-remove.ensures.ok c.loop-input.invariant

pub returns : goal.returns
returns c = all_without c.args.utxo.now c.loop-input.utxo c.args.inputs.now c.loop-input.input-index c.loop-input-test.false c.loop-input.invariant
