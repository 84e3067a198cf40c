use Rattle.inbox.proofs.Moves.{begins}
use Rattle.inbox.proofs.opened.Opened.new.Goals as goal

pub ruled-requires-clause-rule : goal.ruled-requires-clause-rule
ruled-requires-clause-rule c = begins
