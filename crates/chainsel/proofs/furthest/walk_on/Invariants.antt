use Rattle.std.proofs.Common.{◌≡◌, ◌-◌, ◌<◌, ◌^◌, ◌++◌, List, map, take, drop}
use Rattle.std.specs.List.{AllByRecursion}
use Rattle.model.specs.Block.{Block}
use Rattle.chainsel.specs.Ends.{AreNext}
use Rattle.chainsel.proofs.furthest.walk_on.Given as goal

-- what follows the ends so far has been put behind
abbrev pub invariant-loop-place : goal.invariant-loop-place
invariant-loop-place g l = (more : List Block)
    × (map (λ x. x.now) l.walked.items ≡ map (λ x. x.now) l.fn.walked.items ++ more)
    × AreNext l.store l.found.hashes.items (take (l.place - l.from) (drop l.from (map (λ x. x.now) l.fn.walked.items))) more
    × AllByRecursion (λ b. b.header.number < 2 ^ 64) more
