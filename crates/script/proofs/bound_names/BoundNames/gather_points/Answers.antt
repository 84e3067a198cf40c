use Rattle.std.proofs.Common.{◌≡◌, ◌<◌, ℕ, List, None, length, sym, subst, refl, is_some, false}
use Rattle.ident.specs.PointView.{point_of}
use Rattle.script.specs.Meaning.{point_at}
use Rattle.script.specs.PlaceView.{place_of}
use Rattle.script.specs.WordsView.{words_left}
use Rattle.script.proofs.Gathering.{fewer_places, next_point_known, next_point_unknown, no_places_left, gathered_more, all_gathered, none_wanted}
use Rattle.script.proofs.Asking.{free_so, no_some}
use Rattle.script.proofs.bound_names.BoundNames.gather_points.Goals as goal

pub returns-in_default-point_at : goal.returns-in_default-point_at
returns-in_default-point_at c = λ names bound.
    let none : is_some c.point_at.result ≡ false = no_some c.point_at.result c.in_default-point_at.not-Some in
    let unknown : point_at names (place_of c.in-Some.place) ≡ None = free_so point_of c.point_at.result _ (c.point_at.ensures names bound) none in
    let end = next_point_unknown names (words_left c.loop-place.left.words) (place_of c.in-Some.place) (sym c.in-Some.ensures.place) unknown in
    (refl, none_wanted _ _ _ (c.loop-place.invariant names bound) end)

pub loop-place-smaller : goal.loop-place-smaller
loop-place-smaller c =
    let left = words_left c.loop-place.left.words in
    subst (λ (l : List (List ℕ)). length l < length left) (sym c.next_place.ensures.rest) (fewer_places left (place_of c.in-Some.place) (sym c.in-Some.ensures.place))

pub loop-place-preserved : goal.loop-place-preserved
loop-place-preserved c = λ names bound.
    let known = sym (c.in-Some-point_at.ensures names bound) in
    let more = next_point_known names (words_left c.loop-place.left.words) (place_of c.in-Some.place) (point_of c.in-Some-point_at.point) (sym c.in-Some.ensures.place) known in
    rw c.next_place.ensures.rest
    (gathered_more point_of c.loop-place.gathered.items c.push.new.self.items c.in-Some-point_at.point (point_of c.in-Some-point_at.point) _ _ _ c.in_ok-push.ensures.items refl (c.loop-place.invariant names bound) more)

pub returns : goal.returns
returns c = λ names bound.
    let none = sym c.in_default.ensures.place in
    all_gathered _ _ _ (c.loop-place.invariant names bound) (no_places_left names (words_left c.loop-place.left.words) none)
