use Rattle.std.proofs.Common.{◌≡◌, Bool, true, false, List, refl, sym, ap, subst, ◌∙◌, arith}
use Rattle.std.proofs.lemmas.Bool.Decides.{nat_tests}
use Rattle.std.specs.Prelude.{◌==◌}
use Rattle.std.specs.List.{list_all}
use Rattle.model.specs.Transaction.{Output}
use Rattle.tx.specs.View.{output_of}
use Rattle.model.specs.Explaining.{IsFailingAt}
use Rattle.utxo_rules.proofs.Finding.{pass_more, fails_here, all_pass_here}
use Rattle.utxo_rules.proofs.firsts.foreign_output.Goals as goal

pub returns-then-network-params : goal.returns-then-network-params
returns-then-network-params c = λ verifies utxo slot.
    let test : Output → Bool = λ o. o.address.network == c.args.params.now.network in
    let bad : test (output_of c.index-outputs-index.result) ≡ false = grind (arith, nat_tests, c.network.ensures.is, c.if-network-params.true) in
    let first = fails_here output_of test c.outputs-outputs.result.now c.loop-index.index c.index-outputs-index.result c.loop-index-test.true c.index-outputs-index.is bad c.loop-index.invariant in
    (refl, (output_of c.index-outputs-index.result, subst (λ (os : List Output). IsFailingAt test os c.loop-index.index (output_of c.index-outputs-index.result)) c.outputs-outputs.ensures first))

pub loop-index-preserved : goal.loop-index-preserved
loop-index-preserved c =
    let test : Output → Bool = λ o. o.address.network == c.args.params.now.network in
    let here : test (output_of c.index-outputs-index.result) ≡ true = grind (arith, nat_tests, c.network.ensures.is, c.if-network-params.false) in
    pass_more output_of test c.outputs-outputs.result.now c.loop-index.index c.index-outputs-index.result c.loop-index-test.true c.index-outputs-index.is here c.loop-index.invariant

pub returns : goal.returns
returns c = λ verifies utxo slot.
    let test : Output → Bool = λ o. o.address.network == c.args.params.now.network in
    ap (list_all test) (sym c.outputs-outputs.ensures) ∙ all_pass_here output_of test c.outputs-outputs.result.now c.loop-index.index c.loop-index-test.false c.loop-index.invariant
