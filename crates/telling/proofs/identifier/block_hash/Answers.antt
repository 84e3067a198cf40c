use Rattle.std.proofs.Common.{sym}
use Rattle.telling.proofs.identifier.block_hash.Goals as goal

pub returns-in-Ok-Ok-clause-id : goal.returns-in-Ok-Ok-clause-id
returns-in-Ok-Ok-clause-id c =
    let read = rw c.in-Ok-Ok.field-0-is at c.in-Ok-Ok.ensures.block in
    (c.in-Ok-Ok.block, read, sym c.hash.ensures)
