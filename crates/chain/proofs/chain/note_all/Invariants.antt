use Rattle.std.proofs.Common.{◌≡◌, ◌++◌, map, take, vec_capacity}
use Rattle.model.specs.Block.{block_hash_of}
use Rattle.block.specs.View.{bytes_of}
use Rattle.chain.specs.Noted.{noted}
use Rattle.chain.proofs.chain.note_all.Given as goal

abbrev pub invariant-loop-block : goal.invariant-loop-block
invariant-loop-block g l = record {
  gone : noted l.gone.items ≡ noted l.fn.gone.items ++ take l.block-index l.blocks;
  hashes : map bytes_of l.hashes.items ≡ map bytes_of l.fn.hashes.items ++ map block_hash_of (take l.block-index l.blocks);
  room : vec_capacity l.hashes ≡ vec_capacity l.fn.hashes;
}
