use Rattle.std.proofs.Common.{◌≡◌, ap, ◌∙◌}
use Rattle.block.specs.View.{header_of}
use Rattle.watching.specs.Histories.{inclusion_in}
use Rattle.watching.specs.Chains.{tables_after}
use Rattle.watching.specs.View.{tables_of}
use Rattle.watching.proofs.Advancing.{one_on, one_watched}
use Rattle.watching.proofs.advance.Advance.apply_all.Goals as goal

pub loop-index-preserved : goal.loop-index-preserved
loop-index-preserved g c =
    let which = c.args.which.now in
    let header = header_of c.args.header.now in
    let old = tables_of c.args.self.tables in
    let now = tables_of c.loop-index.advance.tables in
    let new = tables_of c.in_ok-advance.advance.tables in
    let i = c.loop-index.index in
    let t = c.index-transactions-index.result in
    let made : new ≡ tables_after which (inclusion_in header i) now c.tx.result.now = c.in_ok-advance.ensures.now in
    let after : new ≡ tables_after which (inclusion_in header i) now t = made ∙ ap (tables_after which (inclusion_in header i) now) c.tx.ensures in
    record {
      part = one_on which header old now new c.args.transactions.now i t c.loop-index-test.true c.index-transactions-index.is after c.loop-index.invariant.part;
      watched = one_watched which (inclusion_in header i) now new t after;
      back = c.in_ok-advance.ensures.back ∙ c.loop-index.invariant.back;
    }
