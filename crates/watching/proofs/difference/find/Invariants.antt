-- None of the chains that were looked at ends at the point.
use Rattle.std.proofs.Common.{◌≡◌}
use Rattle.block.specs.View.{tip_of}
use Rattle.ident.specs.PointView.{point_of}
use Rattle.watching.specs.Chains.{point_at}
use Rattle.watching.proofs.Stepping.{IsPartSearched}
use Rattle.watching.proofs.difference.find.Given as goal

abbrev pub invariant-loop-back : goal.invariant-loop-back
invariant-loop-back l = IsPartSearched (λ t. point_at t ≡ point_of l.point) (tip_of l.tip) l.differences l.older l.back
