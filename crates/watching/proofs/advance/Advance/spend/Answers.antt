use Rattle.std.proofs.Common.{◌≡◌, true, false, is_some, Option, Some, None, Bor, option_map, refl, sym, ap, ◌∙◌}
use Rattle.std.specs.Option.{option_copied}
use Rattle.std.specs.FinMap as finite
use Rattle.model.specs.Transaction.{Output}
use Rattle.model.specs.Utxo.{Utxo, output_at}
use Rattle.model.proofs.Unspent.{inputs_total, inputs_same}
use Rattle.tx.specs.View.{input_of, output_of}
use Rattle.tx.specs.declared.output.Output.{Output as CodeOutput}
use Rattle.watching.specs.Changes.{Change, OutputAt, put_back}
use Rattle.watching.specs.Advances.{with_outputs}
use Rattle.watching.specs.View.{tables_of}
use Rattle.watching.proofs.Owning.{none_removed}
use Rattle.watching.proofs.Changing.{removal_undone, one_more}
use Rattle.watching.proofs.advance.Advance.spend.Goals as goal

not_found : (r : Option (Bor CodeOutput)) (o : Option Output) → is_some r ≡ false → option_map output_of (option_copied r) ≡ o → o ≡ None
not_found None o none found = sym found
not_found (Some x) o none found = absurd (let clash : true ≡ false = none in cc)

pub returns-then-is_none : goal.returns-then-is_none
returns-then-is_none c =
    let k = tables_of c.args.self.tables in
    let i = input_of c.args.input.now in
    let none : output_at k.outputs i ≡ None = not_found c.get.result (output_at k.outputs i) c.if-is_none.ensures (c.get.ensures ∙ ap (λ (u : Utxo). output_at u i) c.all.ensures) in
    record { now = ap (λ (u : Utxo). with_outputs u k) (none_removed k.outputs i none); back = refl }

pub returns : goal.returns
returns c =
    let k = tables_of c.args.self.tables in
    let i = input_of c.args.input.now in
    let o = option_map output_of c.in_ok-index.before in
    let change : Change = OutputAt i o in
    let is : with_outputs c.in_ok-index.index k ≡ with_outputs (finite.remove k.outputs i) k = ap (λ (u : Utxo). with_outputs u k) c.in_ok-index.ensures.left in
    record {
      now = is;
      back = one_more c.args.self.changes.items c.push.new.self.items change k (with_outputs c.in_ok-index.index k) c.in_ok-push.ensures.items
          (ap (put_back change) is ∙ ap (λ (u : Utxo). with_outputs u k) (removal_undone inputs_total inputs_same k.outputs i o c.in_ok-index.ensures.taken));
    }
