use Rattle.std.proofs.Common.{length, sym, ap, ◌∙◌}
use Rattle.watching.specs.Chains.{Watched}
use Rattle.watching.specs.View.{tables_of}
use Rattle.watching.proofs.Stepping.{versions_length}
use Rattle.watching.proofs.watch.Watch.depth.Goals as goal

pub returns-clause-depth : goal.returns-clause-depth
returns-clause-depth c =
    c.len.ensures.value ∙ sym (versions_length (tables_of c.self.inside.tables) c.self.inside.differences) ∙ ap (λ (w : Watched). length w.older) c.self.view_is
