use Rattle.std.proofs.Common.{◌≡◌, length, Some, None, sym, ◌∙◌, arith, rules, heap_len}
use Rattle.std.proofs.lemmas.List.{length-set}
use Rattle.std.specs.BinaryHeap.{heap_items}
use Rattle.model.specs.Follower.{follower_of}
use Rattle.std.specs.Prelude.{IsOk}
use Rattle.std.proofs.lemmas.List.Sorted.{length_permutation}
use Rattle.followers.proofs.Frees.{taken_at, kept_pushed, some_place, on_ok}
use Rattle.followers.proofs.followers.Followers.close.Goals as goal

pub unreachable-requires : goal.unreachable-requires
unreachable-requires c =
    let before = c.self.invariant in
    let places = c.self.inside.places.items in
    let i = c.args.id.number in
    let found : c.place.result ≡ follower_of places i = search rules in
    let there = some_place c.place.result c.is_none.result c.is_none.ensures c.if-is_none.false in
    let taken = taken_at places i there.0 (sym found ∙ there.1) in
    let fewer = taken.fewer in
    let room = before.room in
    let counted = before.counted in
    let size : heap_len c.self.inside.free ≡ length (heap_items c.self.inside.free) = search rules in
    let fits : IsOk c.push.result = c.push.ensures.succeeds (omega arith) in
    search rules

pub invariant_of-self : goal.invariant_of-self
invariant_of-self c =
    let before = c.self.invariant in
    let places = c.self.inside.places.items in
    let i = c.args.id.number in
    let found : c.place.result ≡ follower_of places i = search rules in
    let there = some_place c.place.result c.is_none.result c.is_none.ensures c.if-is_none.false in
    let is : follower_of places i ≡ Some there.0 = sym found ∙ there.1 in
    let taken = taken_at places i there.0 is in
    let done : IsOk c.push.result = search rules in
    let pushed = on_ok c.push.result _ done c.push.ensures.permutation in
    let order = on_ok c.push.result _ done c.push.ensures.heap_order in
    let longer = length_permutation _ _ pushed in
    let long = length-set places i None in
    let closed = taken.closed in
    let counted = before.counted in
    let capacity = c.push.ensures.capacity in
    let room = before.room in
    let few = before.few in
    record {
      kept = kept_pushed places _ _ _ there.0 is before.kept pushed;
      counted = omega arith;
      ordered = order before.ordered;
      room = omega arith;
      few = omega arith;
    }
