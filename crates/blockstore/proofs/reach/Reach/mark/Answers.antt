use Rattle.std.proofs.Common.{◌≡◌, ◌∙◌, ◌++◌, ◌∷◌, [], ◌<◌, List, Some, refl, false, ap, subst, sym, arith, length, vec_len, vec_capacity}
use Rattle.std.proofs.lemmas.List.{length-map}
use Rattle.block.specs.declared.tip.Tip.{Tip as Place}
use Rattle.block.specs.View.{tip_of}
use Rattle.std.specs.Prelude.{Option, option_map}
use Rattle.blockstore.specs.Tests.{marked_at}
use Rattle.blockstore.specs.Ways.{AreTurning, FollowsOne, AllStand, IsPlaceOf}
use Rattle.blockstore.proofs.Shelves.{none_found}
use Rattle.blockstore.proofs.Rising.{mark_settled, mark_turns, mark_stands, mark_fewer}
use Rattle.blockstore.proofs.reach.Reach.mark.Goals as goal

pub settle-requires-clause-room : goal.settle-requires-clause-room
settle-requires-clause-room g c =
    let old = c.args.blocks.now in
    let new = c.mark.new.self in
    let fewer = mark_fewer (Some (tip_of c.args.root)) old.blocks new.blocks c.args.hash.bytes old.notes new.notes c.in-Some.place c.requires.notes c.mark.ensures.blocks c.mark.ensures.apart c.in-Some.ensures.place c.mark.ensures.notes in
    let count = c.mark.ensures.blocks.count in
    let room = c.requires.room in
    let none : length c.args.self.now.waiting.items ≡ 0 = ap length c.requires.none in
    let longer = c.push.ensures.upper_bound in
    let wide = c.push.ensures.capacity in
    omega (arith, fewer, count, room, none, longer, wide, length-map old.blocks (marked_at c.args.hash.bytes))

pub settle-requires-clause-all_stand : goal.settle-requires-clause-all_stand
settle-requires-clause-all_stand g c =
    let old = c.args.blocks.now in
    let new = c.mark.new.self in
    let root = Some (tip_of c.args.root) in
    let stand = mark_stands root old.blocks new.blocks c.args.hash.bytes old.notes new.notes c.in-Some.place c.requires.notes c.mark.ensures.blocks c.mark.ensures.apart c.in-Some.ensures.place c.mark.ensures.notes in
    let count = c.mark.ensures.blocks.count in
    let room = c.requires.room in
    let empty : length c.args.self.now.waiting.items ≡ 0 = ap length c.requires.none in
    let fewer = mark_fewer root old.blocks new.blocks c.args.hash.bytes old.notes new.notes c.in-Some.place c.requires.notes c.mark.ensures.blocks c.mark.ensures.apart c.in-Some.ensures.place c.mark.ensures.notes in
    let free : vec_len c.args.self.now.waiting < vec_capacity c.args.self.now.waiting = omega (arith, fewer, count, room, empty, length-map old.blocks (marked_at c.args.hash.bytes)) in
    let pushed : c.push.new.self.items ≡ c.args.self.now.waiting.items ++ c.in-Some.place ∷ [] = c.push.ensures.items ∙ rw (c.push.ensures.succeeds free) refl in
    let alone : c.push.new.self.items ≡ c.in-Some.place ∷ [] = pushed ∙ ap (λ (ws : List Place). ws ++ c.in-Some.place ∷ []) c.requires.none in
    subst (AllStand root new.blocks false new.notes) (sym alone) stand

pub settle-requires-clause-turning : goal.settle-requires-clause-turning
settle-requires-clause-turning g c =
    let old = c.args.blocks.now in
    let new = c.mark.new.self in
    let root = Some (tip_of c.args.root) in
    let turns = mark_turns root old.blocks new.blocks c.args.hash.bytes old.notes new.notes c.in-Some.place c.requires.notes c.mark.ensures.blocks c.mark.ensures.apart c.in-Some.ensures.place c.mark.ensures.notes in
    let count = c.mark.ensures.blocks.count in
    let room = c.requires.room in
    let empty : length c.args.self.now.waiting.items ≡ 0 = ap length c.requires.none in
    let fewer = mark_fewer root old.blocks new.blocks c.args.hash.bytes old.notes new.notes c.in-Some.place c.requires.notes c.mark.ensures.blocks c.mark.ensures.apart c.in-Some.ensures.place c.mark.ensures.notes in
    let free : vec_len c.args.self.now.waiting < vec_capacity c.args.self.now.waiting = omega (arith, fewer, count, room, empty, length-map old.blocks (marked_at c.args.hash.bytes)) in
    let pushed : c.push.new.self.items ≡ c.args.self.now.waiting.items ++ c.in-Some.place ∷ [] = c.push.ensures.items ∙ rw (c.push.ensures.succeeds free) refl in
    let alone : c.push.new.self.items ≡ c.in-Some.place ∷ [] = pushed ∙ ap (λ (ws : List Place). ws ++ c.in-Some.place ∷ []) c.requires.none in
    subst (λ (ws : List Place). AreTurning root new.blocks false (FollowsOne ws) new.notes) (sym alone) turns

pub returns-in_default-clause-notes : goal.returns-in_default-clause-notes
returns-in_default-clause-notes g c =
    let old = c.args.blocks.now in
    let new = c.mark.new.self in
    let none = subst (λ (r : Option Place). IsPlaceOf old c.args.hash.bytes (option_map tip_of r)) (none_found c.mark.result c.in_default.not-Some) c.mark.ensures.place in
    mark_settled (Some (tip_of c.args.root)) old.blocks new.blocks c.args.hash.bytes old.notes new.notes c.requires.notes c.mark.ensures.blocks none c.mark.ensures.notes
