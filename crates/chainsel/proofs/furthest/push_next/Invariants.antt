use Rattle.std.proofs.Common.{◌≡◌, ◌<◌, ◌^◌, ◌++◌, List, map, take}
use Rattle.std.specs.List.{AllByRecursion}
use Rattle.model.specs.Block.{Block}
use Rattle.chainsel.proofs.Nexts.{AreTaken}
use Rattle.chainsel.proofs.furthest.push_next.Given as goal

-- of the successors so far those that are taken have been put behind
abbrev pub invariant-loop-stored : goal.invariant-loop-stored
invariant-loop-stored g l = (more : List Block)
    × (map (λ x. x.now) l.walked.items ≡ map (λ x. x.now) l.fn.walked.items ++ more)
    × AreTaken l.found.hashes.items l.end (map (λ x. x.now) (take l.stored-index l.stored-items)) more
    × AllByRecursion (λ b. b.header.number < 2 ^ 64) more
