use Rattle.std.proofs.Common.{◌≡◌, ◌∙◌, Some, option_map, ap, refl}
use Rattle.conversing.specs.declared.outcome.Outcome.TheVariants.{NoFollower}
use Rattle.serving.specs.Lanes.{number_of}
use Rattle.serving.specs.Following.{Comes, Full, By, Without}
use Rattle.serving.proofs.Telling.{replied, replies_so}
use Rattle.serving.proofs.node.Node.tell_next.Goals as goal

pub returns-in-Some-clause-ok : goal.returns-in-Some-clause-ok
returns-in-Some-clause-ok g c =
    let opened = c.follower.new.caller in
    let id = c.in-Some.id.number in
    let follower = rw c.in-Some.is at c.in_ok-found.ensures.ok in
    let has = option_map number_of c.follower.new.follower in
    let is : has ≡ Some id = ap (option_map number_of) (rw c.in-Some.is at c.in_ok-found.ensures.keeps) in
    replies_so c.tell_due.ensures (λ outcome due. Comes id opened follower due is)
    (λ later. By id opened follower later is)

pub returns-in-None-clause-ok : goal.returns-in-None-clause-ok
returns-in-None-clause-ok g c =
    let none = rw c.in-None.is at c.in_ok-found.ensures.ok in
    let keeps = ap (option_map number_of) (rw c.in-None.is at c.in_ok-found.ensures.keeps) ∙ none.none in
    replied NoFollower (Full none keeps refl) (Without none keeps) c.tell.ensures
