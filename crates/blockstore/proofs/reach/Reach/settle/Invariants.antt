use Rattle.std.proofs.Common.{◌≡◌, ◌+◌, ◌≤◌, vec_len, vec_capacity, option_map}
use Rattle.block.specs.View.{tip_of}
use Rattle.blockstore.specs.Ways.{AreTurning, FollowsOne, AllStand, may_turn}
use Rattle.blockstore.proofs.reach.Reach.settle.Given as goal

-- what follows a place that waits is all that isn't right
abbrev pub invariant-loop-place : goal.invariant-loop-place
invariant-loop-place g l = record {
  same : l.blocks.blocks ≡ l.initial.blocks.blocks;
  all_stand : AllStand (option_map tip_of l.root) l.blocks.blocks l.reached l.blocks.notes l.self.waiting.items;
  turning : AreTurning (option_map tip_of l.root) l.blocks.blocks l.reached (FollowsOne l.self.waiting.items) l.blocks.notes;
  few : vec_len l.self.waiting + may_turn l.blocks.blocks l.reached l.blocks.notes ≤ vec_capacity l.self.waiting;
  room : vec_capacity l.initial.self.waiting ≤ vec_capacity l.self.waiting;
}

abbrev pub decreases-loop-place : goal.decreases-loop-place
decreases-loop-place g l = vec_len l.self.waiting + may_turn l.blocks.blocks l.reached l.blocks.notes
