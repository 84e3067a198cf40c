use Rattle.std.proofs.Common.{◌+◌, ◌≤◌, vec_len, vec_capacity, option_map}
use Rattle.std.specs.BTreeMap.{IsOrdered}
use Rattle.block.specs.View.{tip_of}
use Rattle.blockstore.specs.Placed.{blocks_in, notes_in, AreSameBlocks}
use Rattle.blockstore.specs.Keys.{hash_cmp}
use Rattle.blockstore.specs.Ways.{AreTurning, Stands, AllStand, may_turn}
use Rattle.blockstore.proofs.Noting.{WaitsBehind}
use Rattle.blockstore.proofs.shelf.Shelf.look_behind.Given as goal

-- what follows a place that waits, or this one and is named by the links that are left, is all that isn't right
abbrev pub invariant-loop-link : goal.invariant-loop-link
invariant-loop-link g l = record {
  can_next : (goal.iterator-loop-link g).can_next l.link-iterator;
  is_finite : (goal.iterator-loop-link g).is_finite l.link-iterator;
  same : AreSameBlocks l.initial.blocks l.blocks;
  ordered : IsOrdered hash_cmp l.blocks;
  stands : Stands (option_map tip_of l.root) (blocks_in l.blocks) l.reached (notes_in l.blocks) (tip_of l.before);
  all_stand : AllStand (option_map tip_of l.root) (blocks_in l.blocks) l.reached (notes_in l.blocks) l.waiting.items;
  turning : AreTurning (option_map tip_of l.root) (blocks_in l.blocks) l.reached (WaitsBehind (tip_of l.before) l.waiting.items l.link-iterator) (notes_in l.blocks);
  fewer : vec_len l.waiting + may_turn (blocks_in l.blocks) l.reached (notes_in l.blocks) ≤ vec_len l.initial.waiting + may_turn (blocks_in l.initial.blocks) l.reached (notes_in l.initial.blocks);
  room : vec_capacity l.initial.waiting ≤ vec_capacity l.waiting;
}
