use Rattle.std.proofs.Common.{◌≡◌, Some, sym, ◌∙◌, arith, rules}
use Rattle.std.proofs.lemmas.List.{length-set}
use Rattle.model.specs.Follower.{follower_of}
use Rattle.followers.proofs.Frees.{taken_at, set_open, some_place}
use Rattle.followers.proofs.followers.Followers.forward.Goals as goal

pub invariant_of-self : goal.invariant_of-self
invariant_of-self c =
    let before = c.self.invariant in
    let places = c.self.inside.places.items in
    let i = c.args.id.number in
    let found : c.place.result ≡ follower_of places i = search rules in
    let there = some_place c.place.result c.is_none.result c.is_none.ensures c.if-is_none.false in
    let is : follower_of places i ≡ Some there.0 = sym found ∙ there.1 in
    let taken = taken_at places i there.0 is in
    let long = length-set places i (Some c.standing.result) in
    let room = before.room in
    let few = before.few in
    record {
      kept = λ n. before.kept n ∙ sym (set_open places i n there.0 c.standing.result is);
      counted = before.counted ∙ sym (taken.kept c.standing.result);
      ordered = before.ordered;
      room = omega arith;
      few = omega arith;
    }
