use Rattle.std.proofs.Common.{◌≡◌, ◌∙◌, List, Some, map, option_map, ap, refl, subst}
use Rattle.ident.specs.PointView.{point_of}
use Rattle.ident.specs.declared.point.Point as ident
use Rattle.model.specs.Chain.{Point}
use Rattle.shared.specs.Starts.{network_from}
use Rattle.conversing.specs.RequestView.{point_view}
use Rattle.conversing.specs.declared.outcome.Outcome.TheVariants.{NoFollower}
use Rattle.serving.specs.Lanes.{number_of}
use Rattle.serving.specs.Following.{TellsSet, Set, Full, By, Without, point_named}
use Rattle.serving.proofs.Telling.{replied, replies_so}
use Rattle.serving.proofs.node.Node.tell_intersection.Goals as goal

pub returns-in-Some-clause-ok : goal.returns-in-Some-clause-ok
returns-in-Some-clause-ok g c =
    let network = network_from g.B.Room.start g.S.SigScheme.verifies in
    let opened = c.follower.new.caller in
    let after = c.tell_set.new.caller in
    let id = c.in-Some.id.number in
    let follower = rw c.in-Some.is at c.in_ok-found.ensures.ok in
    let has = option_map number_of c.follower.new.follower in
    let is : has ≡ Some id = ap (option_map number_of) (rw c.in-Some.is at c.in_ok-found.ensures.keeps) in
    let points : map point_of c.deref.result.now ≡ map point_named (map point_view c.args.points.now) =
    ap (λ (ps : List ident.Point). map point_of ps) c.deref.ensures.value ∙ c.in_ok-named.ensures in
    replies_so c.tell_set.ensures
    (λ outcome set. Set id opened follower (subst (λ (ps : List Point). TellsSet network ps id opened after outcome) points set) is)
    (λ later. By id opened follower later is)

pub returns-clause-ok : goal.returns-clause-ok
returns-clause-ok g c =
    let none = rw c.in-None.is at c.in_ok-found.ensures.ok in
    let keeps = ap (option_map number_of) (rw c.in-None.is at c.in_ok-found.ensures.keeps) ∙ none.none in
    replied NoFollower (Full none keeps refl) (Without none keeps) c.tell.ensures
