use Rattle.ed25519.proofs.Roots.{x_some, x_none}
use Rattle.ed25519.proofs.point.x_of.Goals as goal

pub returns-in-Some : goal.returns-in-Some
returns-in-Some c =
    x_some c.args.y.now c.args.sign c.squared-square.result c.minus-u.result c.plus-v.result c.in-Some.x
    c.with_sign.result c.squared-square.ensures (cc) (cc) (cc) c.with_sign.ensures

pub returns-in-None : goal.returns-in-None
returns-in-None c = x_none c.args.y.now c.args.sign c.squared-square.result c.minus-u.result c.plus-v.result
    c.squared-square.ensures (cc) (cc) (cc)
