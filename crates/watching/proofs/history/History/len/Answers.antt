use Rattle.std.proofs.Common.{ap, ◌∙◌}
use Rattle.std.specs.FinMap as finite
use Rattle.persistent_map.proofs.ForCallers.{len_of}
use Rattle.watching.specs.Histories.{inclusion_cmp, History}
use Rattle.watching.proofs.history.History.len.Goals as goal

pub returns : goal.returns
returns c = c.len.ensures.len ∙ len_of inclusion_cmp c.self.inside.map c.len.ensures.rise ∙ ap (λ (h : History). finite.len h) c.self.view_is
