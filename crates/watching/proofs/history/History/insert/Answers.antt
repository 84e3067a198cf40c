use Rattle.std.proofs.Common.{ap, ◌∙◌}
use Rattle.std.specs.FinMap as finite
use Rattle.std.specs.Arc.{arc_value}
use Rattle.persistent_map.proofs.ForCallers.{insert_of}
use Rattle.watching.specs.Histories.{inclusion_cmp, History}
use Rattle.watching.proofs.Entering.{inclusions_total}
use Rattle.watching.proofs.history.History.insert.Goals as goal

pub returns : goal.returns
returns c =
    let call = c.in_ok-insert.ensures in
    let put = arc_value c.in_ok-id.id in
    ap (finite.from_sorted {R = inclusion_cmp}) call.ok
    ∙ insert_of inclusion_cmp inclusions_total c.self.inside.map c.args.inclusion put call.rose
    ∙ ap (λ (h : History). finite.insert h c.args.inclusion put) c.self.view_is
    ∙ ap (finite.insert c.args.self.now c.args.inclusion) c.in_ok-id.ensures.ok
