use Rattle.std.proofs.Common.{◌≡◌, ◌-◌, ◌++◌, length, map}
use Rattle.std.specs.Prelude.{take}
use Rattle.ident.specs.Kinds.{BlockHash}
use Rattle.model.specs.Block.{block_hash_of}
use Rattle.shared.proofs.handles.copy_hashes.Given as goal

-- what was copied, and what is still to be copied, are the hashes of the first blocks
abbrev pub invariant-loop-block : goal.invariant-loop-block
invariant-loop-block g l =
    map (λ (h : BlockHash). h.bytes) l.hashes.items ++ map block_hash_of (take (l.most - length l.hashes.items) l.block-iterator)
    ≡ map block_hash_of (take l.most l.fn.blocks)
