use Rattle.std.proofs.Common.{sym}
use Rattle.telling.proofs.identifier.transaction_id.Goals as goal

pub returns-in-Ok-clause-id : goal.returns-in-Ok-clause-id
returns-in-Ok-clause-id c = (c.in-Ok.tx, c.in-Ok.ensures.found, sym c.id.ensures.is)
