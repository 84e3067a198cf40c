use Rattle.std.proofs.Common.{ap, ◌∙◌}
use Rattle.std.specs.FinMap as finite
use Rattle.persistent_map.proofs.ForCallers.{get_of}
use Rattle.watching.specs.Owned.{owner_cmp, Owned}
use Rattle.watching.proofs.owners.Owners.get.Goals as goal

pub returns : goal.returns
returns c =
    c.get.ensures.value ∙ get_of owner_cmp c.self.inside.map c.args.owner.now c.get.ensures.rise
    ∙ ap (λ (m : Owned). finite.get m c.args.owner.now) c.self.view_is
