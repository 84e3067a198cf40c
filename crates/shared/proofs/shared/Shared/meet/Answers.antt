use Rattle.std.proofs.Common.{ap, ◌∙◌}
use Rattle.shared.specs.Arrivals.{arrivals_in}
use Rattle.shared.proofs.shared.Shared.meet.Goals as goal

pub invariant_of-one : goal.invariant_of-one
invariant_of-one g c = ap arrivals_in c.meet_seats.ensures.one.calls ∙ c.one.invariant

pub invariant_of-other : goal.invariant_of-other
invariant_of-other g c = ap arrivals_in c.meet_seats.ensures.other.calls ∙ c.other.invariant
