use Rattle.std.proofs.Common.{◌≡◌, ◌∙◌, ◌+◌, ◌≤◌, ◌∷◌, refl, sym, ap, subst, arith, List, None, vec_len, vec_capacity, option_map}
use Rattle.block.specs.View.{tip_of}
use Rattle.blockstore.specs.Stored.{Stored}
use Rattle.blockstore.specs.Placed.{Held, blocks_in, notes_in, stored_at, IsKeyed}
use Rattle.blockstore.specs.Keys.{IsLinkOf, IsAgeOf}
use Rattle.blockstore.specs.Shelves.{HasNone, AreLinksAfter}
use Rattle.blockstore.specs.Ways.{AreTurning, FollowsOne, Stands, AllStand, may_turn}
use Rattle.blockstore.specs.declared.keys.Link.{Link}
use Rattle.blockstore.proofs.KeySets.{keys_same, none_some}
use Rattle.blockstore.proofs.Shelves.{apart_on, value_at, holds_at, blocks_same, stored_same, keyed_same}
use Rattle.blockstore.proofs.LinkRanges.{are_links}
use Rattle.blockstore.proofs.Sizes.{bytes_of, AreSized}
use Rattle.blockstore.proofs.Noting.{WaitsBehind, behind_begins, behind_ends, goes_on}
use Rattle.blockstore.proofs.shelf.Shelf.look_behind.Goals as goal

pub loop-link-init : goal.loop-link-init
loop-link-init g c =
    let m = c.self.inside.blocks in
    let root = option_map tip_of c.args.root in
    let previous = (tip_of c.args.before.now).hash in
    let links = c.links_of-link-items.result in
    let named : AreLinksAfter (blocks_in m) previous links = are_links m c.self.inside.links previous links c.self.invariant.ordered c.self.invariant.keyed c.self.invariant.links c.links_of-link-items.ensures.ordered c.links_of-link-items.ensures.between in
    let turning = subst (λ (h : Held). AreTurning root h.blocks c.args.reached (FollowsOne (c.args.before.now ∷ c.args.waiting.now.items)) h.notes) (sym c.self.view_is) c.requires.turning in
    let begun = behind_begins root (blocks_in m) c.args.reached (notes_in m) c.args.before.now c.args.waiting.now.items links named turning in
    record {
      can_next = tt;
      is_finite = tt;
      same = refl;
      ordered = c.self.invariant.ordered;
      stands = subst (λ (h : Held). Stands root h.blocks c.args.reached h.notes (tip_of c.args.before.now)) (sym c.self.view_is) c.requires.stands;
      all_stand = subst (λ (h : Held). AllStand root h.blocks c.args.reached h.notes c.args.waiting.now.items) (sym c.self.view_is) c.requires.all_stand;
      turning = subst (λ (ls : List Link). AreTurning root (blocks_in m) c.args.reached (WaitsBehind (tip_of c.args.before.now) c.args.waiting.now.items ls) (notes_in m)) (sym c.into_iter-link-iterator.ensures.into_iter_gives) begun;
      fewer = omega arith;
      room = omega arith;
    }

pub look_at-requires-clause-keyed : goal.look_at-requires-clause-keyed
look_at-requires-clause-keyed g c = keyed_same c.self.inside.blocks c.loop-link.blocks c.loop-link.invariant.same c.self.invariant.keyed

pub look_at-requires-clause-room : goal.look_at-requires-clause-room
look_at-requires-clause-room g c =
    let room = subst (λ (h : Held). vec_len c.args.waiting.now + may_turn h.blocks c.args.reached h.notes ≤ vec_capacity c.args.waiting.now) (sym c.self.view_is) c.requires.room in
    let fewer = c.loop-link.invariant.fewer in
    let more = c.loop-link.invariant.room in
    omega (arith, room, fewer, more)

pub loop-link-preserved : goal.loop-link-preserved
loop-link-preserved g c =
    let m = c.self.inside.blocks in
    let p = c.loop-link.blocks in
    let q = c.look_at.new.blocks in
    let root = option_map tip_of c.args.root in
    let place = tip_of c.args.before.now in
    let k : Link = c.in-Some.link.now in
    let inv = c.loop-link.invariant in
    let live = blocks_in p in
    let keyed : IsKeyed p = keyed_same m p inv.same c.self.invariant.keyed in
    let was = subst (λ (ls : List Link). AreTurning root live c.args.reached (WaitsBehind place c.loop-link.waiting.items ls) (notes_in p)) c.in-Some.ensures.steps inv.turning in
    let none : stored_at p k.hash ≡ None → HasNone live k.hash = λ free y member at. none_some y (sym free ∙ (ap (stored_at p) (sym at) ∙ holds_at p inv.ordered keyed y member)) in
    let on = goes_on root live c.args.reached place (notes_in p) (notes_in q) c.loop-link.waiting.items c.look_at.new.waiting.items k c.next.new.self (stored_at p k.hash) (apart_on p inv.ordered keyed) none
    (λ x is. (value_at p k.hash x is, keyed k.hash x is)) c.look_at.ensures.looked inv.stands inv.all_stand was in
    let is : live ≡ blocks_in q = sym (blocks_same p q c.look_at.ensures.same) in
    let less = subst (λ (xs : List Stored). vec_len c.look_at.new.waiting + may_turn xs c.args.reached (notes_in q) ≤ vec_len c.loop-link.waiting + may_turn live c.args.reached (notes_in p)) is c.look_at.ensures.fewer in
    let so_far = inv.fewer in
    let room = inv.room in
    let more = c.look_at.ensures.room in
    record {
      can_next = tt;
      is_finite = tt;
      same = c.look_at.ensures.same ∙ inv.same;
      ordered = c.look_at.ensures.ordered;
      stands = subst (λ (xs : List Stored). Stands root xs c.args.reached (notes_in q) place) is on.stands;
      all_stand = subst (λ (xs : List Stored). AllStand root xs c.args.reached (notes_in q) c.look_at.new.waiting.items) is on.all_stand;
      turning = subst (λ (xs : List Stored). AreTurning root xs c.args.reached (WaitsBehind place c.look_at.new.waiting.items c.next.new.self) (notes_in q)) is on.turning;
      fewer = omega (arith, so_far, less);
      room = omega (arith, room, more);
    }

pub invariant_of-self : goal.invariant_of-self
invariant_of-self g c =
    let m = c.self.inside.blocks in
    let p = c.loop-link.blocks in
    let same = c.loop-link.invariant.same in
    record {
      ordered = c.loop-link.invariant.ordered;
      keyed = keyed_same m p same c.self.invariant.keyed;
      links = keys_same IsLinkOf _ (stored_at m) (stored_at p) (stored_same m p same) c.self.invariant.links;
      ages = keys_same IsAgeOf _ (stored_at m) (stored_at p) (stored_same m p same) c.self.invariant.ages;
      counted = c.self.invariant.counted ∙ ap bytes_of (sym (blocks_same m p same));
      sized = subst AreSized (sym (blocks_same m p same)) c.self.invariant.sized;
    }

pub returns-clause-blocks : goal.returns-clause-blocks
returns-clause-blocks g c = blocks_same c.self.inside.blocks c.loop-link.blocks c.loop-link.invariant.same ∙ ap (λ (h : Held). h.blocks) c.self.view_is

pub returns-clause-all_stand : goal.returns-clause-all_stand
returns-clause-all_stand g c = c.loop-link.invariant.all_stand

pub returns-clause-turning : goal.returns-clause-turning
returns-clause-turning g c =
    let root = option_map tip_of c.args.root in
    let p = c.loop-link.blocks in
    behind_ends root (blocks_in p) c.args.reached (notes_in p) (tip_of c.args.before.now) c.loop-link.waiting.items
    (subst (λ (ls : List Link). AreTurning root (blocks_in p) c.args.reached (WaitsBehind (tip_of c.args.before.now) c.loop-link.waiting.items ls) (notes_in p)) (c.in-None.ensures.steps).0 c.loop-link.invariant.turning)

pub returns-clause-fewer : goal.returns-clause-fewer
returns-clause-fewer g c =
    let p = c.loop-link.blocks in
    subst (λ (h : Held). vec_len c.loop-link.waiting + may_turn (blocks_in p) c.args.reached (notes_in p) ≤ vec_len c.args.waiting.now + may_turn h.blocks c.args.reached h.notes) c.self.view_is c.loop-link.invariant.fewer

pub returns-clause-room : goal.returns-clause-room
returns-clause-room g c = c.loop-link.invariant.room
