-- The last `counter` are undone.
use Rattle.ledgerdb.proofs.Along.{IsPartBack}
use Rattle.ledgerdb.proofs.diffs.undo_last.Given as goal

abbrev pub invariant-loop : goal.invariant-loop
invariant-loop l = IsPartBack l.diffs l.older l.fn.state l.before l.counter
