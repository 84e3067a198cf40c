use Rattle.std.proofs.Common.{sym, ap, ◌∙◌}
use Rattle.std.specs.FinMap as finite
use Rattle.persistent_map.proofs.ForCallers.{entries_of}
use Rattle.watching.specs.Histories.{inclusion_cmp, History}
use Rattle.watching.proofs.history.History.iter.Goals as goal

pub returns : goal.returns
returns c = c.iter.ensures.entries ∙ sym (entries_of inclusion_cmp c.self.inside.map c.iter.ensures.rise) ∙ ap (λ (h : History). finite.entries h) c.self.view_is
