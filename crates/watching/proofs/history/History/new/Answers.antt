use Rattle.std.proofs.Common.{ap, ◌∙◌}
use Rattle.std.specs.FinMap as finite
use Rattle.persistent_map.proofs.ForCallers.{empty_of}
use Rattle.watching.specs.Histories.{inclusion_cmp}
use Rattle.watching.proofs.history.History.new.Goals as goal

pub returns : goal.returns
returns c = ap (finite.from_sorted {R = inclusion_cmp}) c.new.ensures.empty ∙ empty_of inclusion_cmp
