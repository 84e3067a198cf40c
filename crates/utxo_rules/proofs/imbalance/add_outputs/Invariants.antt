-- What was added and what is still to be added are the whole.
use Rattle.std.specs.Prelude.{◌≡◌, ◌+◌, ◌+ℤ◌, map}
use Rattle.std.proofs.Common.{drop}
use Rattle.model.specs.Value.{Asset}
use Rattle.model.specs.Utxo.{sum_of}
use Rattle.tx.specs.View.{output_of}
use Rattle.value.specs.Totals.{total_of}
use Rattle.utxo_rules.proofs.imbalance.add_outputs.Given as goal

abbrev pub invariant-loop-output : goal.invariant-loop-output
invariant-loop-output l =
    ((asset : Asset) → total_of l.totals asset +ℤ sum_of asset (map output_of (drop l.output-index l.outputs)) ≡ total_of l.fn.totals asset +ℤ sum_of asset (map output_of l.outputs))
    × (l.totals.values ≡ l.fn.totals.values + l.output-index)
