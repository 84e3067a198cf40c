use Rattle.scenario.proofs.indexes.Indexes.closed.Goals as goal

pub returns-in-Ok : goal.returns-in-Ok
returns-in-Ok c = rw c.in-Ok.is (λ indexes are. (c.remove.ensures indexes are).1)
