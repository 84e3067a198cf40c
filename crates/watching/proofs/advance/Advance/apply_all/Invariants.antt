-- With what is still to be put on it is what is asked for, and what is undone is what it was.
use Rattle.std.proofs.Common.{◌≡◌}
use Rattle.block.specs.View.{header_of}
use Rattle.watching.specs.Changes.{all_put_back}
use Rattle.watching.specs.View.{tables_of}
use Rattle.watching.specs.Which.{AreWatched}
use Rattle.watching.proofs.Advancing.{IsPartOn}
use Rattle.watching.proofs.advance.Advance.apply_all.Given as goal

abbrev pub invariant-loop-index : goal.invariant-loop-index
invariant-loop-index g l = record {
  part : IsPartOn l.which (header_of l.header) (tables_of l.fn.self.tables) (tables_of l.advance.tables) l.transactions l.index;
  watched : AreWatched l.which (tables_of l.advance.tables).outputs;
  back : all_put_back l.advance.changes.items (tables_of l.advance.tables) ≡ all_put_back l.fn.self.changes.items (tables_of l.fn.self.tables);
}
