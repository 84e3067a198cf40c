use Rattle.std.proofs.Common.{◌≡◌, ◌∷◌, List, Some, true, false, ap, sym, subst, arith, length}
use Rattle.model.proofs.Lists.{contains_first, contains_later}
use Rattle.block.specs.declared.tip.Tip.{Tip as Place}
use Rattle.block.specs.View.{tip_of}
use Rattle.blockstore.specs.Ways.{AreTurning, FollowsOne}
use Rattle.blockstore.proofs.Rising.{few_turn, anew}
use Rattle.blockstore.proofs.reach.Reach.begin_anew.Goals as goal

pub look_behind-requires-clause-room : goal.look_behind-requires-clause-room
look_behind-requires-clause-room g c = let room = c.requires.room in omega (arith, room, few_turn c.args.blocks.now.blocks false c.args.blocks.now.notes)

pub look_behind-requires-clause-stands : goal.look_behind-requires-clause-stands
look_behind-requires-clause-stands g c = c.requires.all_stand c.args.old_root.now (contains_first c.args.old_root.now c.args.self.now.waiting.items)

pub look_behind-requires-clause-all_stand : goal.look_behind-requires-clause-all_stand
look_behind-requires-clause-all_stand g c = λ p member. c.requires.all_stand p (contains_later c.args.old_root.now c.args.self.now.waiting.items p member)

pub settle-requires-clause-room : goal.settle-requires-clause-room
settle-requires-clause-room g c =
    let room = c.requires.room in
    let fewer = c.look_behind.ensures.fewer in
    let more = c.look_behind.ensures.room in
    omega (arith, room, fewer, more, few_turn c.args.blocks.now.blocks false c.args.blocks.now.notes)

pub look_behind-requires-2-clause-room : goal.look_behind-requires-2-clause-room
look_behind-requires-2-clause-room g c =
    let room = c.requires.room in
    let more = c.look_behind.ensures.room in
    let still = c.settle.ensures.room in
    let none : length c.settle.new.self.waiting.items ≡ 0 = ap length c.settle.ensures.waiting in
    let same : length c.look_behind.new.self.blocks ≡ length c.args.blocks.now.blocks = ap length c.look_behind.ensures.blocks in
    let too : length c.settle.new.blocks.blocks ≡ length c.look_behind.new.self.blocks = ap length c.settle.ensures.blocks in
    omega (arith, room, more, still, none, same, too, few_turn c.settle.new.blocks.blocks true c.settle.new.blocks.notes)

pub look_behind-requires-2-clause-turning : goal.look_behind-requires-2-clause-turning
look_behind-requires-2-clause-turning g c =
    let held = c.settle.new.blocks in
    subst (λ (ws : List Place). AreTurning (Some (tip_of c.args.root.now)) held.blocks true (FollowsOne (c.args.root.now ∷ ws)) held.notes) (sym c.settle.ensures.waiting) (anew c.args.root.now held.blocks held.notes c.settle.ensures.notes)

pub settle-requires-2-clause-room : goal.settle-requires-2-clause-room
settle-requires-2-clause-room g c =
    let room = c.requires.room in
    let more = c.look_behind.ensures.room in
    let still = c.settle.ensures.room in
    let none : length c.settle.new.self.waiting.items ≡ 0 = ap length c.settle.ensures.waiting in
    let same : length c.look_behind.new.self.blocks ≡ length c.args.blocks.now.blocks = ap length c.look_behind.ensures.blocks in
    let too : length c.settle.new.blocks.blocks ≡ length c.look_behind.new.self.blocks = ap length c.settle.ensures.blocks in
    let fewer = c.look_behind-2.ensures.fewer in
    let last = c.look_behind-2.ensures.room in
    omega (arith, room, more, still, none, same, too, fewer, last, few_turn c.settle.new.blocks.blocks true c.settle.new.blocks.notes)
