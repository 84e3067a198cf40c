use Rattle.std.proofs.Common.{◌≡◌, take}
use Rattle.chain_core.proofs.why.read_all.Given as goal

-- those that were read are the blocks so far
abbrev pub invariant-loop-block : goal.invariant-loop-block
invariant-loop-block g l = l.read.items ≡ take l.block-index l.blocks
