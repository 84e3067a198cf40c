use Rattle.std.proofs.Common.{Option, map, drop}
use Rattle.model.specs.Chain as chain
use Rattle.model.specs.Follower.{IsFirstOn}
use Rattle.ident.specs.PointView.{point_of}
use Rattle.chain.specs.Chained.{chain_of}
use Rattle.chain_core.proofs.place.first_on.Given as goal

-- the first of those that are left is the first of all
abbrev pub invariant-loop-point : goal.invariant-loop-point
invariant-loop-point g l = (found : Option chain.Point) → IsFirstOn (chain_of l.chain) (map point_of (drop l.point-index l.points)) found → IsFirstOn (chain_of l.chain) (map point_of l.points) found
