use Rattle.std.proofs.Common.{ap, ◌∙◌}
use Rattle.std.specs.FinMap as finite
use Rattle.std.specs.Arc.{arc_value}
use Rattle.persistent_map.proofs.ForCallers.{insert_of}
use Rattle.watching.specs.Histories.{id_cmp, Inclusions}
use Rattle.watching.proofs.Owning.{owners_total}
use Rattle.watching.proofs.inclusions.Inclusions.insert.Goals as goal

pub returns : goal.returns
returns c =
    let call = c.in_ok-insert.ensures in
    let put = arc_value c.in_ok-inclusion.inclusion in
    ap (finite.from_sorted {R = id_cmp}) call.ok
    ∙ insert_of id_cmp owners_total c.self.inside.map c.args.id put call.rose
    ∙ ap (λ (m : Inclusions). finite.insert m c.args.id put) c.self.view_is
    ∙ ap (finite.insert c.args.self.now c.args.id) c.in_ok-inclusion.ensures.ok
