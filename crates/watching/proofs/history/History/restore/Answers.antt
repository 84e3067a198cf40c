use Rattle.std.proofs.Common.{sym, ap, ◌∙◌}
use Rattle.std.specs.FinMap as finite
use Rattle.persistent_map.proofs.ForCallers.{remove_of}
use Rattle.watching.specs.Histories.{inclusion_cmp, History}
use Rattle.watching.specs.Changes.{restored}
use Rattle.watching.proofs.Entering.{inclusions_total, inclusions_same}
use Rattle.watching.proofs.history.History.restore.Goals as goal

pub returns-in_ok-remove-in-None : goal.returns-in_ok-remove-in-None
returns-in_ok-remove-in-None c =
    let call = c.in_ok-remove-in-None.ensures in
    ap (finite.from_sorted {R = inclusion_cmp}) call.ok
    ∙ remove_of inclusion_cmp inclusions_total inclusions_same c.self.inside.map c.args.inclusion.now call.rose
    ∙ ap (λ (h : History). finite.remove h c.args.inclusion.now) c.self.view_is
    ∙ ap (restored c.args.self.now c.args.inclusion.now) (sym c.in-None.is)
