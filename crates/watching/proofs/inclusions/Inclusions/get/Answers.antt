use Rattle.std.proofs.Common.{ap, ◌∙◌}
use Rattle.std.specs.FinMap as finite
use Rattle.persistent_map.proofs.ForCallers.{get_of}
use Rattle.watching.specs.Histories.{id_cmp, Inclusions}
use Rattle.watching.proofs.inclusions.Inclusions.get.Goals as goal

pub returns-in_err-inclusion : goal.returns-in_err-inclusion
returns-in_err-inclusion c =
    c.from_residual.ensures ∙ c.in_err-inclusion.ensures.value ∙ get_of id_cmp c.self.inside.map c.args.id.now c.get.ensures.rise
    ∙ ap (λ (m : Inclusions). finite.get m c.args.id.now) c.self.view_is

pub returns : goal.returns
returns c =
    c.in_ok-inclusion.ensures.value ∙ get_of id_cmp c.self.inside.map c.args.id.now c.get.ensures.rise
    ∙ ap (λ (m : Inclusions). finite.get m c.args.id.now) c.self.view_is
