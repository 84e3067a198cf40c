use Rattle.std.proofs.Common.{sym}
use Rattle.telling.proofs.identifier.script_hash.Goals as goal

pub returns-in-Ok-clause-id : goal.returns-in-Ok-clause-id
returns-in-Ok-clause-id c = (c.in-Ok.script, c.in-Ok.ensures.found, sym c.hash.ensures)
