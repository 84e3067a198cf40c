-- With those that are still to be entered it is what is asked for, and what is undone is what it was.
use Rattle.std.proofs.Common.{◌≡◌}
use Rattle.watching.specs.Changes.{all_put_back}
use Rattle.watching.specs.View.{tables_of}
use Rattle.watching.proofs.Advancing.{IsPartTaken, made_entered}
use Rattle.watching.proofs.advance.Advance.enter_made.Given as goal

abbrev pub invariant-loop-output : goal.invariant-loop-output
invariant-loop-output l = record {
  part : IsPartTaken (made_entered l.entry.inclusion l.entry.id l.which) (tables_of l.fn.self.tables) (tables_of l.advance.tables) l.outputs l.output-index;
  back : all_put_back l.advance.changes.items (tables_of l.advance.tables) ≡ all_put_back l.fn.self.changes.items (tables_of l.fn.self.tables);
}
