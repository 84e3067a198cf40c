use Rattle.std.proofs.Common.{◌≢◌, ◌<◌, ◌^◌, [], map, drop}
use Rattle.std.specs.List.{AllByRecursion}
use Rattle.chainsel.specs.Paths.{IsOnPath}
use Rattle.chainsel.specs.Ends.{AreEnds}
use Rattle.chainsel.proofs.furthest.walk_through.Given as goal

-- there are paths as long as the loop has come, and from the place on stands where they end
abbrev pub invariant-loop : goal.invariant-loop
invariant-loop g l = record {
  steps : AllByRecursion (IsOnPath l.store l.found.hashes.items l.new) (map (λ x. x.now) l.blocks.items);
  all : AreEnds l.store l.found.hashes.items l.new l.counter (map (λ x. x.now) (drop l.furthest l.blocks.items));
  some : map (λ x. x.now) (drop l.furthest l.blocks.items) ≢ [];
  range : 0 < l.counter → AllByRecursion (λ b. b.header.number < 2 ^ 64) (map (λ x. x.now) (drop l.furthest l.blocks.items));
}
