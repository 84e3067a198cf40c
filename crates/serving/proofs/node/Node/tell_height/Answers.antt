use Rattle.std.proofs.Common.{refl}
use Rattle.conversing.specs.declared.outcome.Outcome.TheVariants.{Height}
use Rattle.serving.proofs.Telling.{replied}
use Rattle.serving.proofs.node.Node.tell_height.Goals as goal

pub returns : goal.returns
returns g c =
    let look = c.height-height.ensures in
    replied (Height c.height-height.result) (record { height = c.height-height.result; told = refl; so = look }) (record { height = c.height-height.result; look = look }) c.tell.ensures
