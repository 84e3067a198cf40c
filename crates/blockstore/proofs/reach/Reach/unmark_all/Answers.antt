use Rattle.std.proofs.Common.{◌≡◌, ◌∷◌, List, Some, true, ap, sym, subst, arith, length, map, inl}
use Rattle.std.proofs.lemmas.List.{length-map}
use Rattle.model.proofs.Lists.{nothing_contained}
use Rattle.block.specs.declared.tip.Tip.{Tip as Place}
use Rattle.block.specs.View.{tip_of}
use Rattle.blockstore.specs.Ways.{AreTurning, FollowsOne, AllStand}
use Rattle.blockstore.proofs.Rising.{few_turn, anew}
use Rattle.blockstore.proofs.Clearing.{bare_of, notes_of_none}
use Rattle.blockstore.proofs.reach.Reach.unmark_all.Goals as goal

pub look_behind-requires-clause-room : goal.look_behind-requires-clause-room
look_behind-requires-clause-room g c =
    let room = c.requires.room in
    let none : length c.args.self.now.waiting.items ≡ 0 = ap length c.requires.none in
    let same : length c.clear.new.self.blocks ≡ length (map bare_of c.args.blocks.now.blocks) = ap length c.clear.ensures.blocks in
    omega (arith, room, none, same, length-map c.args.blocks.now.blocks bare_of, few_turn c.clear.new.self.blocks true c.clear.new.self.notes)

pub look_behind-requires-clause-stands : goal.look_behind-requires-clause-stands
look_behind-requires-clause-stands g c = λ b follows. inl follows

pub look_behind-requires-clause-all_stand : goal.look_behind-requires-clause-all_stand
look_behind-requires-clause-all_stand g c =
    subst (AllStand (Some (tip_of c.args.root.now)) c.clear.new.self.blocks true c.clear.new.self.notes) (sym c.requires.none) (λ p member. absurd (nothing_contained p member))

pub look_behind-requires-clause-turning : goal.look_behind-requires-clause-turning
look_behind-requires-clause-turning g c =
    let held = c.clear.new.self in
    subst (λ (ws : List Place). AreTurning (Some (tip_of c.args.root.now)) held.blocks true (FollowsOne (c.args.root.now ∷ ws)) held.notes) (sym c.requires.none)
    (anew c.args.root.now held.blocks held.notes (notes_of_none held.blocks held.notes c.clear.ensures.notes))

pub settle-requires-clause-room : goal.settle-requires-clause-room
settle-requires-clause-room g c =
    let room = c.requires.room in
    let fewer = c.look_behind.ensures.fewer in
    let more = c.look_behind.ensures.room in
    let none : length c.args.self.now.waiting.items ≡ 0 = ap length c.requires.none in
    let same : length c.clear.new.self.blocks ≡ length (map bare_of c.args.blocks.now.blocks) = ap length c.clear.ensures.blocks in
    omega (arith, room, fewer, more, none, same, length-map c.args.blocks.now.blocks bare_of, few_turn c.clear.new.self.blocks true c.clear.new.self.notes)

pub returns-clause-room : goal.returns-clause-room
returns-clause-room g c =
    let room = c.requires.room in
    let more = c.look_behind.ensures.room in
    let still = c.settle.ensures.room in
    let same : length c.clear.new.self.blocks ≡ length (map bare_of c.args.blocks.now.blocks) = ap length c.clear.ensures.blocks in
    let behind : length c.look_behind.new.self.blocks ≡ length c.clear.new.self.blocks = ap length c.look_behind.ensures.blocks in
    let too : length c.settle.new.blocks.blocks ≡ length c.look_behind.new.self.blocks = ap length c.settle.ensures.blocks in
    omega (arith, room, more, still, same, behind, too, length-map c.args.blocks.now.blocks bare_of)
