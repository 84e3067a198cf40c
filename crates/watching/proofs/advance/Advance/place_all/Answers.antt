use Rattle.std.proofs.Common.{◌≡◌, ap, sym, ◌∙◌}
use Rattle.model.specs.Utxo.{Utxo, place}
use Rattle.tx.specs.View.{output_of}
use Rattle.watching.specs.Chains.{Tables}
use Rattle.watching.specs.Advances.{with_outputs, placed}
use Rattle.watching.specs.View.{tables_of}
use Rattle.watching.proofs.Advancing.{one_placed}
use Rattle.watching.proofs.advance.Advance.place_all.Goals as goal

pub loop-index-preserved : goal.loop-index-preserved
loop-index-preserved c =
    let which = c.args.which.now in
    let id = c.args.id.bytes in
    let old = tables_of c.args.self.tables in
    let now = tables_of c.loop-index.advance.tables in
    let new = tables_of c.in_ok-advance.advance.tables in
    let i = c.loop-index.index in
    let x = c.index-outputs-index.result in
    let put = placed which (place id i) (output_of x) now.outputs in
    let is : new ≡ with_outputs put now = c.in_ok-advance.ensures.now in
    let outputs : new.outputs ≡ put = ap (λ (k : Tables). k.outputs) is in
    record {
      part = one_placed which id old.outputs now.outputs new.outputs c.args.outputs.now i x c.loop-index-test.true c.index-outputs-index.is outputs c.loop-index.invariant.part;
      others = is ∙ ap (with_outputs put) c.loop-index.invariant.others ∙ ap (λ (u : Utxo). with_outputs u old) (sym outputs);
      back = c.in_ok-advance.ensures.back ∙ c.loop-index.invariant.back;
    }
