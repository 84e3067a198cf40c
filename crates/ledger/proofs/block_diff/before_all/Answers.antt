use Rattle.std.proofs.Common.{refl}
use Rattle.ledger.proofs.Backwards.{none_back, one_back, all_back}
use Rattle.ledger.proofs.block_diff.before_all.Goals as goal

pub loop-done-init : goal.loop-done-init
loop-done-init c = none_back c.args.diffs.now c.args.utxo

pub loop-done-preserved : goal.loop-done-preserved
loop-done-preserved c =
    one_back c.args.diffs.now c.args.utxo c.loop-done.before c.in_ok-before.before c.loop-done.done _ c.index-diffs-count.result c.loop-done-test.true refl c.index-diffs-count.is c.loop-done.invariant c.in_ok-before.ensures.ok

pub returns : goal.returns
returns c = all_back c.args.diffs.now c.args.utxo c.loop-done.before c.loop-done.done c.loop-done-test.false c.loop-done.invariant
