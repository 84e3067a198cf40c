use Rattle.std.proofs.Common.{◌≡◌, Bool, true, false, is_some, Option, Some, None, Bor, sym, ap, ◌∙◌}
use Rattle.std.specs.Option.{option_map, option_copied}
use Rattle.model.specs.Transaction.{Input, Output}
use Rattle.model.specs.Utxo.{Utxo, output_at}
use Rattle.tx.specs.View.{input_of, output_of}
use Rattle.tx.specs.declared.input.Input.{Input as CodeInput}
use Rattle.tx.specs.declared.output.Output.{Output as CodeOutput}
use Rattle.watching.proofs.Choosing.{one_seen, one_passes, none_passes, any_of_map}
use Rattle.watching.proofs.index.Index.has_some.Goals as goal

-- whether something was found
is_found : (b : Bool) (r : Option (Bor CodeOutput)) (o : Option Output) → b ≡ is_some r → option_map output_of (option_copied r) ≡ o → is_some o ≡ b
is_found b None o is found = sym (is ∙ ap is_some found)
is_found b (Some x) o is found = sym (is ∙ ap is_some found)

abbrev test : Utxo → CodeInput → Bool
test u i = is_some (output_at u (input_of i))

pub returns-then-is_some : goal.returns-then-is_some
returns-then-is_some c =
    let u = c.args.self.now in
    let x = c.input-item.result in
    let found : test u x ≡ true = is_found true c.get.result (output_at u (input_of x)) c.if-is_some.ensures (c.get.ensures ∙ ap (λ (v : Utxo). output_at v (input_of x)) c.self.view_is) in
    one_passes (test u) c.args.inputs.now c.loop-input.input-index x c.loop-input-test.true c.input-item.is found c.loop-input.invariant
    ∙ any_of_map (λ (i : Input). is_some (output_at u i)) input_of c.args.inputs.now

pub loop-input-preserved : goal.loop-input-preserved
loop-input-preserved c =
    let u = c.args.self.now in
    let x = c.input-item.result in
    let missed : test u x ≡ false = is_found false c.get.result (output_at u (input_of x)) c.if-is_some.ensures (c.get.ensures ∙ ap (λ (v : Utxo). output_at v (input_of x)) c.self.view_is) in
    one_seen (test u) c.args.inputs.now c.loop-input.input-index x c.loop-input-test.true c.input-item.is missed c.loop-input.invariant

pub returns : goal.returns
returns c =
    let u = c.args.self.now in
    none_passes (test u) c.args.inputs.now c.loop-input.input-index c.loop-input-test.false c.loop-input.invariant
    ∙ any_of_map (λ (i : Input). is_some (output_at u i)) input_of c.args.inputs.now
