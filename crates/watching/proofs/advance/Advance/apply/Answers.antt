use Rattle.std.proofs.Common.{map, ◌∙◌}
use Rattle.model.specs.Utxo.{pairs_from}
use Rattle.tx.specs.View.{output_of}
use Rattle.watching.specs.Chains.{tables_after}
use Rattle.watching.specs.Advances.{with_outputs, with_watched, IsChanged}
use Rattle.watching.specs.View.{tables_of, inclusion_of}
use Rattle.watching.proofs.Owning.{ok_map}
use Rattle.watching.proofs.Advancing.{told_is, parts_applied}
use Rattle.watching.proofs.advance.Advance.apply.Goals as goal

pub returns : goal.returns
returns c =
    let old = c.args.self in
    let which = c.args.which.now in
    let k = tables_of old.tables in
    let t = c.args.tx.now in
    let at = inclusion_of c.args.inclusion.now in
    let inputs = c.inputs-inputs.result.now in
    let outputs = c.outputs-outputs.result.now in
    let told = told_is which k.outputs t inputs outputs c.tells-is_told.result c.requires c.inputs-inputs.ensures c.outputs-outputs.ensures c.tells-is_told.ensures in
    let first = c.in_ok-advance in
    let second = c.in_ok-advance-2 in
    let third = c.in_ok-advance-3 in
    let fourth = c.in_ok-advance-4 in
    let spent = tables_of fourth.advance.tables in
    let after = with_outputs (with_watched which (pairs_from c.id-id.result.bytes 0 (map output_of outputs)) spent.outputs) spent in
    ok_map c.place_all.result (λ new. IsChanged fourth.advance new after) (λ new. IsChanged old new (tables_after which at k t))
    (λ new is. record {
      now = parts_applied which c.of-2.result at k (tables_of first.advance.tables) (tables_of second.advance.tables) (tables_of third.advance.tables) spent (tables_of new.tables) t inputs outputs c.of.result c.id-id.result.bytes c.tells-is_told.result
          c.requires c.of-2.ensures c.inputs-inputs.ensures c.outputs-outputs.ensures (c.of.ensures ∙ c.id-id.ensures.is) c.id-id.ensures.is told first.ensures.now second.ensures.now third.ensures.now fourth.ensures.now is.now;
      back = is.back ∙ fourth.ensures.back ∙ third.ensures.back ∙ second.ensures.back ∙ first.ensures.back;
    }) c.place_all.ensures
