use Rattle.std.proofs.Common.{◌≡◌, ◌++◌, List, length, map}
use Rattle.model.specs.Block.{Block}
use Rattle.chainsel.proofs.way.walked_parent.Given as goal

-- what is left are the first of them
abbrev pub invariant-loop-before : goal.invariant-loop-before
invariant-loop-before g l = (rest : List Block) × (map (λ x. x.now) l.fn.walked.items ≡ map (λ x. x.now) l.walked.items ++ rest)

abbrev pub decreases-loop-before : goal.decreases-loop-before
decreases-loop-before g l = length l.walked.items
