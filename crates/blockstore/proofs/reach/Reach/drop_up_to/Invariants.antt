use Rattle.std.proofs.Common.{◌+◌, ◌≤◌, length, map, MatchOption, vec_len, vec_capacity}
use Rattle.model.specs.Chain.{HaveDistinctHashes}
use Rattle.block.specs.View.{tip_of}
use Rattle.blockstore.specs.Stored.{Stored}
use Rattle.blockstore.specs.Shelves.{ArePast, HasAge, IsLeft}
use Rattle.blockstore.specs.Ways.{AreDropped}
use Rattle.blockstore.proofs.reach.Reach.drop_up_to.Given as goal

-- the oldest one is known; of those there were, all past the number are left
abbrev pub invariant-loop-oldest : goal.invariant-loop-oldest
invariant-loop-oldest g l = record {
  oldest : MatchOption l.oldest (ArePast l.root.number l.blocks.blocks) (λ age. HasAge l.blocks.blocks age × (age.number ≤ l.root.number));
  distinct : HaveDistinctHashes (map (λ (s : Stored). s.block) l.blocks.blocks);
  left : IsLeft l.root.number l.initial.blocks.blocks l.blocks.blocks;
  dropped : AreDropped l.initial.blocks l.blocks (tip_of l.root) l.leads l.self.waiting.items;
  room : vec_len l.self.waiting + length l.blocks.blocks ≤ vec_capacity l.self.waiting;
}

abbrev pub decreases-loop-oldest : goal.decreases-loop-oldest
decreases-loop-oldest g l = length l.blocks.blocks
