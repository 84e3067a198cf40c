use Rattle.ed25519.specs.Points.{added}
use Rattle.ed25519.proofs.Multiples.{twice}
use Rattle.ed25519.proofs.point.Point.plus.Goals as goal

pub returns : goal.returns
unfolding added
returns c = cc (twice c.args.other.now.z)
