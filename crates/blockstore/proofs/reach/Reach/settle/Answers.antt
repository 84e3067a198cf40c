use Rattle.std.proofs.Common.{option_map}
use Rattle.block.specs.View.{tip_of}
use Rattle.blockstore.proofs.Noting.{next_waiting, rest_stand, last_stands}
use Rattle.blockstore.proofs.reach.Reach.settle.Goals as goal

pub look_behind-requires-clause-stands : goal.look_behind-requires-clause-stands
look_behind-requires-clause-stands g c =
    let held = c.loop-place.blocks in
    last_stands (option_map tip_of c.args.root) held.blocks c.args.reached held.notes c.loop-place.self.waiting.items c.pop.new.self.items c.in-Some.place c.in-Some.ensures.items c.loop-place.invariant.all_stand

pub look_behind-requires-clause-all_stand : goal.look_behind-requires-clause-all_stand
look_behind-requires-clause-all_stand g c =
    let held = c.loop-place.blocks in
    rest_stand (option_map tip_of c.args.root) held.blocks c.args.reached held.notes c.loop-place.self.waiting.items c.pop.new.self.items c.in-Some.place c.in-Some.ensures.items c.loop-place.invariant.all_stand

pub look_behind-requires-clause-turning : goal.look_behind-requires-clause-turning
look_behind-requires-clause-turning g c =
    let held = c.loop-place.blocks in
    next_waiting (option_map tip_of c.args.root) held.blocks c.args.reached held.notes c.loop-place.self.waiting.items c.pop.new.self.items c.in-Some.place c.in-Some.ensures.items c.loop-place.invariant.turning
