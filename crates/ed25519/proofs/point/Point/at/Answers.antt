use Rattle.ed25519.specs.Points.{point_at}
use Rattle.ed25519.proofs.point.Point.at.Goals as goal

pub returns : goal.returns
unfolding point_at
returns c = cc
