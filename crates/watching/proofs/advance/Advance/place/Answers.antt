use Rattle.std.proofs.Common.{◌≡◌, true, false, option_map, sym, ap, subst, ◌∙◌}
use Rattle.std.specs.FinMap as finite
use Rattle.model.specs.Transaction.{Output}
use Rattle.model.specs.Utxo.{Utxo, output_at}
use Rattle.model.proofs.Unspent.{inputs_total, inputs_same}
use Rattle.tx.specs.View.{input_of, output_of}
use Rattle.watching.specs.Changes.{Change, OutputAt, put_back}
use Rattle.watching.specs.Advances.{with_outputs, placed, IsChanged}
use Rattle.watching.specs.View.{tables_of}
use Rattle.watching.specs.declared.advance.Advance.{Advance}
use Rattle.watching.proofs.Owning.{removed_free, removed_before, ok_map}
use Rattle.watching.proofs.Changing.{placing_undone, one_more}
use Rattle.watching.proofs.Advancing.{if_placed}
use Rattle.watching.proofs.advance.Advance.place.Goals as goal

pub with-requires : goal.with-requires
with-requires c =
    let i = input_of c.args.input in
    ap (λ (v : Utxo). output_at v i) c.in_ok-index.ensures.left ∙ removed_free (tables_of c.args.self.tables).outputs i

pub returns-then-not-watches : goal.returns-then-not-watches
returns-then-not-watches c =
    let old = c.args.self in
    let which = c.args.which.now in
    let k = tables_of old.tables in
    let i = input_of c.args.input in
    let x = output_of c.args.output.now in
    let is = if_placed which false i x k.outputs (sym c.if-not-watches.ensures) in
    ok_map c.spend.result (λ new. IsChanged old new (with_outputs (finite.remove k.outputs i) k)) (λ new. IsChanged old new (with_outputs (placed which i x k.outputs) k))
    (λ (new : Advance) changed. subst (λ (u : Utxo). IsChanged old new (with_outputs u k)) is changed) c.spend.ensures

pub returns : goal.returns
returns c =
    let k = tables_of c.args.self.tables in
    let i = input_of c.args.input in
    let x = output_of c.args.output.now in
    let copy = output_of c.in_ok-try_clone.field-0 in
    let o = option_map output_of c.in_ok-index.before in
    let change : Change = OutputAt i o in
    let whole : c.in_ok-tables.field-0 ≡ finite.insert k.outputs i x =
    c.in_ok-tables.ensures ∙ ap (λ (v : Utxo). finite.insert v i copy) c.in_ok-index.ensures.left ∙ removed_before k.outputs i copy
    ∙ ap (λ (p : Output). finite.insert k.outputs i p) c.in_ok-try_clone.ensures in
    let is : with_outputs c.in_ok-tables.field-0 k ≡ with_outputs (finite.insert k.outputs i x) k = ap (λ (u : Utxo). with_outputs u k) whole in
    record {
      now = is ∙ ap (λ (u : Utxo). with_outputs u k) (if_placed c.args.which.now true i x k.outputs (sym c.if-not-watches.ensures));
      back = one_more c.args.self.changes.items c.push.new.self.items change k (with_outputs c.in_ok-tables.field-0 k) c.in_ok-push.ensures.items
          (ap (put_back change) is ∙ ap (λ (u : Utxo). with_outputs u k) (placing_undone inputs_total inputs_same k.outputs i x o c.in_ok-index.ensures.taken));
    }
