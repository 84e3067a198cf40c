use Rattle.std.proofs.Common.{arith}
use Rattle.std.proofs.lemmas.Int.{ints}
use Rattle.utxo_rules.proofs.Balancing.{sum_here}
use Rattle.utxo_rules.proofs.imbalance.add_outputs.Goals as goal

pub loop-output-preserved : goal.loop-output-preserved
loop-output-preserved c = (
  λ asset.
      let here = sum_here asset c.args.outputs.now c.loop-output.output-index c.output-item.result c.loop-output-test.true c.output-item.is in
      let taken = c.in_ok-add_to.ensures.sums asset in
      let before = c.loop-output.invariant.0 asset in
      omega (arith, ints, here, taken, before),
  let counted = c.in_ok-add_to.ensures.counted in let before = c.loop-output.invariant.1 in omega (arith, counted, before),
)
