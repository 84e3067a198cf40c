use Rattle.std.proofs.Common.{◌+◌, map, drop, subst, sym, ap, arith}
use Rattle.model.specs.Cbor.{nesting}
use Rattle.model.specs.Transaction.{item_of_output}
use Rattle.tx.specs.Said.{IsSaidOutput}
use Rattle.tx.specs.View.{output_of}
use Rattle.cbor.proofs.ForCallers.{drop_here}
use Rattle.tx.proofs.Depths.{one_seen}
use Rattle.tx.proofs.PartsSaid.{output_said, output_nests}
use Rattle.tx.proofs.nesting.outputs_nesting.Goals as goal

pub loop-output-preserved : goal.loop-output-preserved
loop-output-preserved c =
    let outputs = c.args.outputs.now in
    let k = c.loop-output.output-index in
    let output = c.output-item.result in
    let value = c.nesting.ensures in
    let here = ap (map output_of) (drop_here outputs k output c.loop-output-test.true c.output-item.is) in
    let said = output_said output value.spelled (omega (arith, value.deep, value.within)) in (
      one_seen item_of_output IsSaidOutput (map output_of outputs) (map output_of (drop k outputs)) (output_of output) (map output_of (drop (k + 1) outputs)) c.loop-output.deepest _ c.max-deepest.result here said (output_nests output c.nesting.result value.deep) c.max-deepest.ensures c.loop-output.invariant.0,
      omega (arith, c.loop-output.invariant.1, value.within),
    )
