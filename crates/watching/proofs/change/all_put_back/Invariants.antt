-- The last ones are undone.
use Rattle.std.proofs.Common.{◌≡◌, ◌-◌, length, drop}
use Rattle.watching.specs.Changes.{all_put_back}
use Rattle.watching.specs.View.{tables_of}
use Rattle.watching.proofs.change.all_put_back.Given as goal

abbrev pub invariant-loop-done : goal.invariant-loop-done
invariant-loop-done l = tables_of l.before ≡ all_put_back (drop (length l.changes - l.done) l.changes) (tables_of l.fn.tables)
