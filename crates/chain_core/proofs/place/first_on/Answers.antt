use Rattle.std.proofs.Common.{Some, None, rules}
use Rattle.model.specs.Follower.{IsOn}
use Rattle.ident.specs.PointView.{point_of}
use Rattle.chain.specs.Chained.{chain_of}
use Rattle.chain_core.proofs.Points.{first_here, first_later, first_nowhere}
use Rattle.chain_core.proofs.place.first_on.Goals as goal

pub loop-point-init : goal.loop-point-init
loop-point-init g c = λ found first. first

pub returns-then-is_on : goal.returns-then-is_on
returns-then-is_on g c =
    let here : IsOn (chain_of c.args.chain.now) (point_of c.point-item.result) = search rules in
    c.loop-point.invariant (Some (point_of c.point-item.result)) (first_here (chain_of c.args.chain.now) c.args.points.now c.loop-point.point-index c.point-item.result c.loop-point-test.true c.point-item.is here)

pub loop-point-preserved : goal.loop-point-preserved
loop-point-preserved g c =
    let off : IsOn (chain_of c.args.chain.now) (point_of c.point-item.result) → ⊥ = search rules in
    λ found first. c.loop-point.invariant found (first_later (chain_of c.args.chain.now) c.args.points.now c.loop-point.point-index c.point-item.result c.loop-point-test.true c.point-item.is off found first)

pub returns : goal.returns
returns g c = c.loop-point.invariant None (first_nowhere (chain_of c.args.chain.now) c.args.points.now c.loop-point.point-index c.loop-point-test.false)
