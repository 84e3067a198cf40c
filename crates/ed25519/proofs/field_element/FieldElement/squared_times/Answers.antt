use Rattle.std.proofs.Common.{◌∙◌}
use Rattle.ed25519.proofs.Powers.{power_one, power_twice}
use Rattle.ed25519.proofs.field_element.FieldElement.squared_times.Goals as goal

pub loop-i-init : goal.loop-i-init
loop-i-init c = c.copy-square.ensures.same ∙ power_one _ c.copy-square.ensures.below

pub loop-i-preserved : goal.loop-i-preserved
loop-i-preserved c = power_twice _ _ _ _ c.loop-i.invariant c.squared-square.ensures
