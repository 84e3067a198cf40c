-- The points that were put and those that are still to come are all.
use Rattle.ident.specs.PointView.{point_of}
use Rattle.conversing.specs.RequestView.{point_view}
use Rattle.serving.specs.Following.{point_named}
use Rattle.serving.proofs.Gathering.{IsGathered}
use Rattle.serving.proofs.following.named_points.Given as goal

abbrev pub invariant-loop-point : goal.invariant-loop-point
invariant-loop-point l = IsGathered (λ point. point_named (point_view point)) point_of l.named.items l.points l.point-index
