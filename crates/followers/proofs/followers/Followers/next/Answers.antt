use Rattle.std.proofs.Common.{◌≡◌, Some, sym, ◌∙◌, arith, rules}
use Rattle.std.proofs.lemmas.List.{length-set}
use Rattle.model.specs.Follower.{follower_of}
use Rattle.followers.proofs.Frees.{taken_at, set_open}
use Rattle.followers.proofs.followers.Followers.next.Goals as goal

pub invariant_of-self : goal.invariant_of-self
invariant_of-self c =
    let before = c.self.invariant in
    let places = c.self.inside.places.items in
    let i = c.args.id.number in
    let is : follower_of places i ≡ Some c.in-Some.place = search rules in
    let taken = taken_at places i c.in-Some.place is in
    let long = length-set places i (Some c.moved_on.result) in
    let room = before.room in
    let few = before.few in
    record {
      kept = λ n. before.kept n ∙ sym (set_open places i n c.in-Some.place c.moved_on.result is);
      counted = before.counted ∙ sym (taken.kept c.moved_on.result);
      ordered = before.ordered;
      room = omega arith;
      few = omega arith;
    }
