use Rattle.std.proofs.Common.{◌∙◌, sym, refl}
use Rattle.ident.specs.PointView.{point_of}
use Rattle.script.proofs.Definitions.{unknown_so, found_so}
use Rattle.script.proofs.bound_names.BoundNames.points_at.Goals as goal

pub returns-then-not-knows_places : goal.returns-then-not-knows_places
returns-then-not-knows_places c = λ names bound. (refl, unknown_so _ (sym c.if-not-knows_places.true ∙ c.knows_places.ensures names bound))

pub returns : goal.returns
returns c = λ names bound. found_so point_of _ c.gather_points.result (c.gather_points.ensures names bound) (sym c.if-not-knows_places.false ∙ c.knows_places.ensures names bound)
