use Rattle.utxo_rules.proofs.Changing.{none_unplaced, one_unplaced, all_unplaced}
use Rattle.utxo_rules.proofs.undoing.take_places.Goals as goal

pub loop-index-init : goal.loop-index-init
loop-index-init c = none_unplaced c.args.id.bytes c.args.count c.args.utxo.now

pub loop-index-preserved : goal.loop-index-preserved
loop-index-preserved c = one_unplaced c.args.id.bytes c.args.count c.args.utxo.now c.loop-index.utxo c.remove.new.self c.loop-index.index c.loop-index-test.true c.in_ok-remove.ensures.ok c.loop-index.invariant

pub returns : goal.returns
returns c = all_unplaced c.args.id.bytes c.args.count c.args.utxo.now c.loop-index.utxo c.loop-index.index c.loop-index-test.false c.loop-index.invariant
