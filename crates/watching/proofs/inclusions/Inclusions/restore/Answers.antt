use Rattle.std.proofs.Common.{sym, ap, ◌∙◌}
use Rattle.std.specs.FinMap as finite
use Rattle.persistent_map.proofs.ForCallers.{remove_of}
use Rattle.watching.specs.Histories.{id_cmp, Inclusions}
use Rattle.watching.specs.Changes.{restored}
use Rattle.watching.proofs.Owning.{owners_total, owners_same}
use Rattle.watching.proofs.inclusions.Inclusions.restore.Goals as goal

pub returns-in_ok-remove-in-None : goal.returns-in_ok-remove-in-None
returns-in_ok-remove-in-None c =
    let call = c.in_ok-remove-in-None.ensures in
    ap (finite.from_sorted {R = id_cmp}) call.ok
    ∙ remove_of id_cmp owners_total owners_same c.self.inside.map c.args.id.now call.rose
    ∙ ap (λ (m : Inclusions). finite.remove m c.args.id.now) c.self.view_is
    ∙ ap (restored c.args.self.now c.args.id.now) (sym c.in-None.is)
