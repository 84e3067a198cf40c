-- With what is still to be put in it is what is asked for, and what is undone is what it was.
use Rattle.std.proofs.Common.{◌≡◌}
use Rattle.watching.proofs.Advancing.{IsPartPlaced}
use Rattle.watching.specs.Changes.{all_put_back}
use Rattle.watching.specs.Advances.{with_outputs}
use Rattle.watching.specs.View.{tables_of}
use Rattle.watching.proofs.advance.Advance.place_all.Given as goal

abbrev pub invariant-loop-index : goal.invariant-loop-index
invariant-loop-index l = record {
  part : IsPartPlaced l.which l.id.bytes (tables_of l.fn.self.tables).outputs (tables_of l.advance.tables).outputs l.outputs l.index;
  others : tables_of l.advance.tables ≡ with_outputs (tables_of l.advance.tables).outputs (tables_of l.fn.self.tables);
  back : all_put_back l.advance.changes.items (tables_of l.advance.tables) ≡ all_put_back l.fn.self.changes.items (tables_of l.fn.self.tables);
}
