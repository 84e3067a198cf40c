use Rattle.std.proofs.Common.{sym, ◌∙◌}
use Rattle.ident.specs.PointView.{point_of}
use Rattle.conversing.specs.RequestView.{point_view}
use Rattle.serving.specs.Following.{point_named}
use Rattle.serving.proofs.Gathering.{all_gathered, map_twice}
use Rattle.serving.proofs.following.named_points.Goals as goal

pub returns : goal.returns
returns c =
    all_gathered (λ point. point_named (point_view point)) point_of c.loop-point.named.items c.args.points.now c.loop-point.point-index c.loop-point-test.false c.loop-point.invariant
    ∙ sym (map_twice point_view point_named c.args.points.now)
