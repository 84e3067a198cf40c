-- The first `counter` are undone.
use Rattle.watching.specs.View.{tables_of}
use Rattle.watching.proofs.Stepping.{IsPartBack}
use Rattle.watching.proofs.difference.before_blocks.Given as goal

abbrev pub invariant-loop : goal.invariant-loop
invariant-loop l = IsPartBack l.differences l.older (tables_of l.fn.tables) (tables_of l.before) l.counter
