use Rattle.std.proofs.Common.{sym, ap, subst, ◌∙◌}
use Rattle.std.specs.FinMap as finite
use Rattle.persistent_map.proofs.ForCallers.{empty_of}
use Rattle.watching.specs.Owned.{owner_cmp}
use Rattle.watching.specs.Histories.{NoneEmpty}
use Rattle.watching.proofs.Entering.{none_empty_at_first}
use Rattle.watching.proofs.histories.Histories.new.Goals as goal

pub invariant_of-result : goal.invariant_of-result
invariant_of-result c = (
  c.new.ensures.rise,
  subst NoneEmpty (sym (ap (finite.from_sorted {R = owner_cmp}) c.new.ensures.empty ∙ empty_of owner_cmp)) none_empty_at_first,
  c.new-2.ensures,
)

pub returns : goal.returns
returns c = ap (finite.from_sorted {R = owner_cmp}) c.new.ensures.empty ∙ empty_of owner_cmp
