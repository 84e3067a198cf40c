use Rattle.value.proofs.ForCallers.{one_copied, all_copied}
use Rattle.tx.proofs.copying.clone_scripts.Goals as goal

pub loop-script-preserved : goal.loop-script-preserved
loop-script-preserved c =
    one_copied (λ s. s) c.loop-script.copies.items c.push.new.self.items c.args.scripts.now c.loop-script.script-index c.script-item.result c.in_ok-try_clone.field-0 c.loop-script-test.true c.script-item.is c.in_ok-try_clone.ensures c.in_ok-push.ensures.items c.loop-script.invariant

pub returns : goal.returns
returns c = all_copied (λ s. s) c.loop-script.copies.items c.args.scripts.now c.loop-script.script-index c.loop-script-test.false c.loop-script.invariant
