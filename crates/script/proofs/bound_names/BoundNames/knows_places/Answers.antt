use Rattle.std.proofs.Common.{◌≡◌, ◌∙◌, ◌<◌, ℕ, List, None, true, false, not, refl, is_some, length, sym, ap, subst}
use Rattle.ident.specs.PointView.{point_of}
use Rattle.script.specs.Meaning.{point_at}
use Rattle.script.specs.PlaceView.{place_of}
use Rattle.script.specs.WordsView.{words_left}
use Rattle.script.proofs.Asking.{free_so, bound_so}
use Rattle.script.proofs.Gathering.{fewer_places, next_point_known, next_point_unknown, no_places_left, some_more}
use Rattle.script.proofs.bound_names.BoundNames.knows_places.Goals as goal

pub returns-then-is_none : goal.returns-then-is_none
returns-then-is_none c = λ names bound.
    let none : is_some c.point_at.result ≡ false = c.is_none.ensures ∙ ap not c.if-is_none.true in
    let unknown : point_at names (place_of c.in-Some.place) ≡ None = free_so point_of c.point_at.result _ (c.point_at.ensures names bound) none in
    let end = next_point_unknown names (words_left c.loop-place.left.words) (place_of c.in-Some.place) (sym c.in-Some.ensures.place) unknown in
    sym (c.loop-place.invariant names bound ∙ rw end refl)

pub loop-place-smaller : goal.loop-place-smaller
loop-place-smaller c =
    let left = words_left c.loop-place.left.words in
    subst (λ (l : List (List ℕ)). length l < length left) (sym c.next_place.ensures.rest) (fewer_places left (place_of c.in-Some.place) (sym c.in-Some.ensures.place))

pub loop-place-preserved : goal.loop-place-preserved
loop-place-preserved c = λ names bound.
    let some : is_some c.point_at.result ≡ true = c.is_none.ensures ∙ ap not c.if-is_none.false in
    let point = bound_so point_of c.point_at.result _ (c.point_at.ensures names bound) some in
    let more = next_point_known names (words_left c.loop-place.left.words) (place_of c.in-Some.place) point.0 (sym c.in-Some.ensures.place) point.1 in
    c.loop-place.invariant names bound ∙ some_more _ _ _ more ∙ rw c.next_place.ensures.rest refl

pub returns : goal.returns
returns c = λ names bound.
    let none = sym c.in_default.ensures.place in
    sym (c.loop-place.invariant names bound ∙ rw (no_places_left names (words_left c.loop-place.left.words) none) refl)
