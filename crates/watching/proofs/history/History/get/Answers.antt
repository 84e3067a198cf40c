use Rattle.std.proofs.Common.{ap, ◌∙◌}
use Rattle.std.specs.FinMap as finite
use Rattle.persistent_map.proofs.ForCallers.{get_of}
use Rattle.watching.specs.Histories.{inclusion_cmp, History}
use Rattle.watching.proofs.history.History.get.Goals as goal

pub returns-in_err-id : goal.returns-in_err-id
returns-in_err-id c =
    c.from_residual.ensures ∙ c.in_err-id.ensures.value ∙ get_of inclusion_cmp c.self.inside.map c.args.inclusion.now c.get.ensures.rise
    ∙ ap (λ (h : History). finite.get h c.args.inclusion.now) c.self.view_is

pub returns : goal.returns
returns c =
    c.in_ok-id.ensures.value ∙ get_of inclusion_cmp c.self.inside.map c.args.inclusion.now c.get.ensures.rise
    ∙ ap (λ (h : History). finite.get h c.args.inclusion.now) c.self.view_is
