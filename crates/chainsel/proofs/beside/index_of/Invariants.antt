use Rattle.std.proofs.Common.{◌≤◌, length}
use Rattle.chainsel.proofs.beside.index_of.Given as goal

-- none of the blocks so far
abbrev pub invariant-loop-place : goal.invariant-loop-place
invariant-loop-place g l = l.place ≤ length l.blocks
