use Rattle.std.proofs.Common.{◌≡◌, Bool, true, false, not, is_some, List, refl, sym, ap, subst, ◌∙◌}
use Rattle.std.specs.List.{list_all}
use Rattle.model.specs.Transaction.{Input}
use Rattle.model.specs.Utxo.{output_at}
use Rattle.tx.specs.View.{input_of, output_of}
use Rattle.model.specs.Explaining.{IsFailingAt}
use Rattle.utxo_rules.proofs.Asks.{seen_some}
use Rattle.utxo_rules.proofs.Finding.{pass_more, fails_here, all_pass_here}
use Rattle.utxo_rules.proofs.firsts.missing_input.Goals as goal

pub returns-then-is_none : goal.returns-then-is_none
returns-then-is_none c = λ verifies params slot.
    let test : Input → Bool = λ input. is_some (output_at c.args.utxo.now input) in
    let bad : is_some (output_at c.args.utxo.now (input_of c.input-item.result)) ≡ false = sym (ap is_some c.get.ensures) ∙ seen_some output_of c.get.result ∙ c.is_none.ensures ∙ ap not c.if-is_none.true in
    let first = fails_here input_of test c.inputs-inputs.result.now c.loop-input.input-index c.input-item.result c.loop-input-test.true c.input-item.is bad c.loop-input.invariant in
    (refl, (c.loop-input.input-index, subst (λ (is : List Input). IsFailingAt test is c.loop-input.input-index (input_of c.input-item.result)) c.inputs-inputs.ensures first))

pub loop-input-preserved : goal.loop-input-preserved
loop-input-preserved c =
    let test : Input → Bool = λ input. is_some (output_at c.args.utxo.now input) in
    let here : is_some (output_at c.args.utxo.now (input_of c.input-item.result)) ≡ true = sym (ap is_some c.get.ensures) ∙ seen_some output_of c.get.result ∙ c.is_none.ensures ∙ ap not c.if-is_none.false in
    pass_more input_of test c.inputs-inputs.result.now c.loop-input.input-index c.input-item.result c.loop-input-test.true c.input-item.is here c.loop-input.invariant

pub returns : goal.returns
returns c = λ verifies params slot.
    let test : Input → Bool = λ input. is_some (output_at c.args.utxo.now input) in
    ap (list_all test) (sym c.inputs-inputs.ensures) ∙ all_pass_here input_of test c.inputs-inputs.result.now c.loop-input.input-index c.loop-input-test.false c.loop-input.invariant
