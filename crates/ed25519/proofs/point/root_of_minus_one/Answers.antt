use Rattle.std.proofs.Common.{◌∙◌}
use Rattle.ed25519.specs.Arithmetic.{prime}
use Rattle.ed25519.specs.Inside.{limbs}
use Rattle.ed25519.proofs.Facts.{root_digits}
use Rattle.ed25519.proofs.point.root_of_minus_one.Goals as goal

pub returns : goal.returns
unfolding prime limbs
returns c = c.from_digits.ensures ∙ root_digits
