use Rattle.ed25519.specs.Arithmetic.{prime}
use Rattle.ed25519.specs.Points.{curve_d}
use Rattle.ed25519.specs.Inside.{limbs}
use Rattle.ed25519.proofs.point.twice_curve_d.Goals as goal

pub returns : goal.returns
unfolding prime limbs curve_d
returns c = c.from_digits.ensures
