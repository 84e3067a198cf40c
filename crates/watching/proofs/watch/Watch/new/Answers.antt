use Rattle.std.proofs.Common.{◌≡◌, List, [], length, sym, ap, subst, arith}
use Rattle.watching.specs.Chains.{Tables}
use Rattle.watching.specs.Changes.{Difference}
use Rattle.watching.specs.View.{tables_of, AreAllWatched}
use Rattle.watching.proofs.Narrowing.{still_watched}
use Rattle.watching.proofs.watch.Watch.new.Goals as goal

pub invariant_of-result : goal.invariant_of-result
invariant_of-result c =
    let which = c.args.which in
    let tables = tables_of c.in_ok-tables.tables in
    let none : c.new-2.result ≡ [] = c.new-2.ensures in
    record {
      bounded = (let long : length c.new-2.result ≡ 0 = ap length none in omega (arith, long));
      watched = subst (λ (ds : List Difference). AreAllWatched which tables ds) (sym none) (still_watched which c.args.outputs.now tables.outputs (ap (λ (k : Tables). k.outputs) c.in_ok-tables.ensures));
    }
