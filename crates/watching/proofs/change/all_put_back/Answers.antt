use Rattle.std.proofs.Common.{refl}
use Rattle.watching.specs.View.{tables_of}
use Rattle.watching.proofs.Changing.{none_back, one_back, all_back}
use Rattle.watching.proofs.change.all_put_back.Goals as goal

pub loop-done-init : goal.loop-done-init
loop-done-init c = none_back c.args.changes.now (tables_of c.args.tables)

pub loop-done-preserved : goal.loop-done-preserved
loop-done-preserved c =
    one_back c.args.changes.now (tables_of c.args.tables) (tables_of c.loop-done.before) (tables_of c.in_ok-before.before) c.loop-done.done _ c.index-changes-count.result c.loop-done-test.true refl c.index-changes-count.is c.loop-done.invariant c.in_ok-before.ensures

pub returns : goal.returns
returns c = all_back c.args.changes.now (tables_of c.args.tables) (tables_of c.loop-done.before) c.loop-done.done c.loop-done-test.false c.loop-done.invariant
