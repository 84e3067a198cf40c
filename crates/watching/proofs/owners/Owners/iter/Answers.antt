use Rattle.std.proofs.Common.{sym, ap, ◌∙◌}
use Rattle.std.specs.FinMap as finite
use Rattle.persistent_map.proofs.ForCallers.{entries_of}
use Rattle.watching.specs.Owned.{owner_cmp, Owned}
use Rattle.watching.proofs.owners.Owners.iter.Goals as goal

pub returns : goal.returns
returns c = c.iter.ensures.entries ∙ sym (entries_of owner_cmp c.self.inside.map c.iter.ensures.rise) ∙ ap (λ (m : Owned). finite.entries m) c.self.view_is
