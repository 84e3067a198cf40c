use Rattle.std.proofs.Common.{◌≡◌, Bool, true, false, not, is_some, refl, sym, ap, ◌∙◌}
use Rattle.model.specs.Transaction.{Input}
use Rattle.model.specs.Utxo.{output_at}
use Rattle.tx.specs.View.{input_of, output_of}
use Rattle.utxo_rules.proofs.Asks.{next_passes, next_fails, all_pass, seen_some}
use Rattle.utxo_rules.proofs.conditions.are_unspent.Goals as goal

pub loop-input-init : goal.loop-input-init
loop-input-init c = refl

pub returns-then-is_none : goal.returns-then-is_none
returns-then-is_none c =
    let test : Input → Bool = λ input. is_some (output_at c.args.utxo.now input) in
    let bad : is_some (output_at c.args.utxo.now (input_of c.input-item.result)) ≡ false = sym (ap is_some c.get.ensures) ∙ seen_some output_of c.get.result ∙ c.is_none.ensures ∙ ap not c.if-is_none.true in
    next_fails input_of test c.args.inputs.now c.loop-input.input-index c.input-item.result c.loop-input-test.true c.input-item.is bad c.loop-input.invariant

pub loop-input-preserved : goal.loop-input-preserved
loop-input-preserved c =
    let test : Input → Bool = λ input. is_some (output_at c.args.utxo.now input) in
    let here : is_some (output_at c.args.utxo.now (input_of c.input-item.result)) ≡ true = sym (ap is_some c.get.ensures) ∙ seen_some output_of c.get.result ∙ c.is_none.ensures ∙ ap not c.if-is_none.false in
    next_passes input_of test c.args.inputs.now c.loop-input.input-index c.input-item.result c.loop-input-test.true c.input-item.is here c.loop-input.invariant

pub returns : goal.returns
returns c = all_pass input_of (λ input. is_some (output_at c.args.utxo.now input)) c.args.inputs.now c.loop-input.input-index c.loop-input-test.false c.loop-input.invariant
