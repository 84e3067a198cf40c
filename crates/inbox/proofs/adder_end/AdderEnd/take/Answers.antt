use Rattle.std.proofs.Common.{suc}
use Rattle.inbox.specs.Arrivals.{peers}
use Rattle.inbox.proofs.Moves.{takes, finds_empty}
use Rattle.inbox.proofs.adder_end.AdderEnd.take.Goals as goal

pub pop_as-requires-clause-rule : goal.pop_as-requires-clause-rule
pop_as-requires-clause-rule g c =
    (takes _ _ (suc peers) c.self.invariant.role, finds_empty _ _ (suc peers) c.self.invariant.role)
