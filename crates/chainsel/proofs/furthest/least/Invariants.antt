use Rattle.std.proofs.Common.{◌≢◌, [], map, take, Contains}
use Rattle.chainsel.specs.Ends.{HasLeastHash}
use Rattle.chainsel.proofs.furthest.least.Given as goal

-- the least of the blocks so far
abbrev pub invariant-loop-end : goal.invariant-loop-end
invariant-loop-end g l = record {
  member : l.ends ≢ [] → Contains (map (λ x. x.now) l.ends) l.least;
  least : HasLeastHash (map (λ x. x.now) (take l.end-index l.ends)) l.least;
}
