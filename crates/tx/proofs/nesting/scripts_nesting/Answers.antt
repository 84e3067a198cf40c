use Rattle.std.proofs.Common.{◌+◌, drop, arith}
use Rattle.model.specs.Script.{item_of_script}
use Rattle.tx.specs.Said.{IsSaidScript}
use Rattle.cbor.proofs.ForCallers.{drop_here}
use Rattle.tx.proofs.Depths.{one_seen}
use Rattle.tx.proofs.PartsSaid.{script_said}
use Rattle.tx.proofs.nesting.scripts_nesting.Goals as goal

pub loop-script-preserved : goal.loop-script-preserved
loop-script-preserved c =
    let scripts = c.args.scripts.now in
    let k = c.loop-script.script-index in
    let script = c.script-item.result in
    let here = drop_here scripts k script c.loop-script-test.true c.script-item.is in (
      one_seen item_of_script IsSaidScript scripts (drop k scripts) script (drop (k + 1) scripts) c.loop-script.deepest c.nesting.result c.max-deepest.result here (script_said script c.nesting.ensures.spelled) c.nesting.ensures.deep c.max-deepest.ensures c.loop-script.invariant.0,
      omega (arith, c.loop-script.invariant.1, c.nesting.ensures.within),
    )
