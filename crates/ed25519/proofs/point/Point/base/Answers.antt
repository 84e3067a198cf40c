use Rattle.ed25519.specs.Arithmetic.{prime}
use Rattle.ed25519.specs.Points.{base_point}
use Rattle.ed25519.specs.Inside.{limbs}
use Rattle.ed25519.proofs.point.Point.base.Goals as goal

pub returns : goal.returns
unfolding base_point prime limbs
returns c = cc
