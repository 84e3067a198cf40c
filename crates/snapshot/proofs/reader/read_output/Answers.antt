use Rattle.std.proofs.Common.{◌≡◌, ◌+◌, ◌∷◌, [], ◌++◌, length, ap, ◌∙◌, arith}
use Rattle.std.specs.FinMap as finite
use Rattle.std.proofs.lemmas.List.{length-append}
use Rattle.model.specs.Transaction.{Input, Output}
use Rattle.tx.specs.View.{input_of, output_of}
use Rattle.snapshot.specs.Begun.{coin_in}
use Rattle.snapshot.proofs.FrontTexts.{holds_if, fails_if}
use Rattle.snapshot.proofs.Resuming.{coins_of_both}
use Rattle.snapshot.proofs.Stepping.{not_within}
use Rattle.snapshot.proofs.reader.read_output.Goals as goal

pub returns-then-len-front-clause-fault : goal.returns-then-len-front-clause-fault
returns-then-len-front-clause-fault c =
    let counted = finite.len-entries c.args.outputs.now in
    record {
      pair = (input_of c.in_ok-input.input, output_of c.in_ok-input.output);
      rest = c.in_ok-input.rest.now;
      begins = record { text = c.in_ok-input.ensures.text; is_pair = c.in_ok-input.ensures.pair };
      holds = omega (arith, counted, c.if-len-front.true, c.len.ensures);
    }

pub returns-then-not-is_within-clause-fault : goal.returns-then-not-is_within-clause-fault
returns-then-not-is_within-clause-fault c =
    let pair : Input × Output = (input_of c.in_ok-input.input, output_of c.in_ok-input.output) in
    let coins : coin_in (finite.entries c.args.outputs.now ++ pair ∷ []) ≡ coin_in (finite.entries c.args.outputs.now) + coin_in (pair ∷ []) = coins_of_both (finite.entries c.args.outputs.now) (pair ∷ []) in
    let over = not_within _ _ (fails_if c.is_within.result _ c.is_within.ensures c.if-not-is_within.true) in
    record {
      pair = pair;
      rest = c.in_ok-input.rest.now;
      begins = record { text = c.in_ok-input.ensures.text; is_pair = c.in_ok-input.ensures.pair };
      holds = omega (arith, coins, over, c.coin.ensures, c.coin-2.ensures);
    }

pub returns-clause-found : goal.returns-clause-found
returns-clause-found c =
    let pair : Input × Output = (input_of c.in_ok-input.input, output_of c.in_ok-input.output) in
    let coins : coin_in (finite.entries c.args.outputs.now ++ pair ∷ []) ≡ coin_in (finite.entries c.args.outputs.now) + coin_in (pair ∷ []) = coins_of_both (finite.entries c.args.outputs.now) (pair ∷ []) in
    let added : finite.entries c.add.new.self ≡ finite.entries c.args.outputs.now ++ pair ∷ [] = c.in_ok-add.ensures.ok in
    let size = ap length added ∙ length-append (finite.entries c.args.outputs.now) (pair ∷ []) in
    let coin = ap coin_in added in
    let fits = holds_if c.is_within.result _ c.is_within.ensures c.if-not-is_within.false in
    let counted = finite.len-entries c.args.outputs.now in
    record {
      pair = pair;
      begins = record { text = c.in_ok-input.ensures.text; is_pair = c.in_ok-input.ensures.pair };
      now_is = added;
      counted = omega (arith, size, counted, c.if-len-front.false, c.len.ensures);
      within = omega (arith, coin, coins, fits, c.coin.ensures, c.coin-2.ensures);
    }
