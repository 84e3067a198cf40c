use Rattle.std.proofs.Common.{◌≡◌, Bool, true, false, List, Some, refl, sym, ap, subst, ◌∙◌, arith}
use Rattle.std.proofs.lemmas.Bool.Decides.{nat_tests}
use Rattle.std.specs.Prelude.{nat_le, slice_get}
use Rattle.std.specs.List.{list_all}
use Rattle.model.specs.Transaction.{Output}
use Rattle.model.specs.Rules.{Era, least_coin}
use Rattle.tx.specs.View.{output_of}
use Rattle.utxo_rules.specs.View.{era_of}
use Rattle.model.specs.Explaining.{IsFailingAt}
use Rattle.utxo_rules.proofs.Finding.{seen_at, pass_more, fails_here, all_pass_here}
use Rattle.utxo_rules.proofs.Sizes.{assets_fit}
use Rattle.utxo_rules.proofs.firsts.small_output.Goals as goal

-- whether an output holds enough
abbrev is_enough : Era → Output → Bool
is_enough era o = nat_le (least_coin era o) o.value.coin

pub least_coin-least-requires : goal.least_coin-least-requires
least_coin-least-requires c =
    let x = c.index-outputs-index.result in
    let there = seen_at output_of c.outputs-outputs.result.now c.loop-index.index x c.loop-index-test.true c.index-outputs-index.is in
    let fits = assets_fit c.args.tx.now c.loop-index.index (output_of x) (subst (λ (os : List Output). slice_get os c.loop-index.index ≡ Some (output_of x)) c.outputs-outputs.ensures there) in
    omega (arith, fits, c.size.ensures, c.size.type_inv)

pub returns-then-from-least : goal.returns-then-from-least
returns-then-from-least c = λ verifies utxo.
    let x = c.index-outputs-index.result in
    let era = era_of c.era_at-era.result in
    let bad : is_enough era (output_of x) ≡ false = grind (arith, nat_tests, c.least_coin-least.ensures, c.coin-coin.ensures, c.from.ensures, c.if-from-least.true) in
    let first = fails_here output_of (is_enough era) c.outputs-outputs.result.now c.loop-index.index x c.loop-index-test.true c.index-outputs-index.is bad c.loop-index.invariant in
    let of_all = subst (λ (os : List Output). IsFailingAt (is_enough era) os c.loop-index.index (output_of x)) c.outputs-outputs.ensures first in (
      refl,
      (
        output_of x,
        subst (λ (e : Era). IsFailingAt (is_enough e) c.args.tx.now.outputs c.loop-index.index (output_of x)) c.era_at-era.ensures of_all,
        c.coin-coin.ensures,
        c.least_coin-least.ensures ∙ ap (λ (e : Era). least_coin e (output_of x)) c.era_at-era.ensures,
      ),
    )

pub loop-index-preserved : goal.loop-index-preserved
loop-index-preserved c =
    let x = c.index-outputs-index.result in
    let era = era_of c.era_at-era.result in
    let here : is_enough era (output_of x) ≡ true = grind (arith, nat_tests, c.least_coin-least.ensures, c.coin-coin.ensures, c.from.ensures, c.if-from-least.false) in
    pass_more output_of (is_enough era) c.outputs-outputs.result.now c.loop-index.index x c.loop-index-test.true c.index-outputs-index.is here c.loop-index.invariant

pub returns : goal.returns
returns c = λ verifies utxo.
    let era = era_of c.era_at-era.result in
    ap (λ (e : Era). list_all (is_enough e) c.args.tx.now.outputs) (sym c.era_at-era.ensures) ∙ ap (list_all (is_enough era)) (sym c.outputs-outputs.ensures)
    ∙ all_pass_here output_of (is_enough era) c.outputs-outputs.result.now c.loop-index.index c.loop-index-test.false c.loop-index.invariant
