use Rattle.inbox.proofs.Moves.{tells, hears}
use Rattle.inbox.proofs.telling.hear.Goals as goal

pub another-note-requires-clause-rule : goal.another-note-requires-clause-rule
another-note-requires-clause-rule g c = tells _ _

pub absorb-requires-clause-rule : goal.absorb-requires-clause-rule
absorb-requires-clause-rule g c = hears _ _ _ _
