use Rattle.ed25519.specs.Points.{has_small_order}
use Rattle.ed25519.proofs.point.Point.has_small_order.Goals as goal

pub returns : goal.returns
unfolding has_small_order
returns c = cc (c.doubled-twice.ensures c.args.self.now.t)
