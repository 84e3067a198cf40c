use Rattle.std.proofs.Common.{ap, ◌∙◌}
use Rattle.shared.specs.Arrivals.{arrivals_in}
use Rattle.shared.proofs.shared.Shared.height.Goals as goal

pub invariant_of-caller : goal.invariant_of-caller
invariant_of-caller g c = ap arrivals_in c.look.ensures.calls ∙ c.caller.invariant
