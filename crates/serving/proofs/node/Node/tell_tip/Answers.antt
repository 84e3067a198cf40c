use Rattle.std.proofs.Common.{refl}
use Rattle.conversing.specs.declared.outcome.Outcome.TheVariants.{Tip}
use Rattle.serving.proofs.Telling.{answered}
use Rattle.serving.proofs.node.Node.tell_tip.Goals as goal

pub returns : goal.returns
returns g c =
    answered (Tip c.tip-tip.result) c.tip-tip.ensures (record { tip = c.tip-tip.result; told = refl; so = c.tip-tip.ensures }) c.tell.ensures
