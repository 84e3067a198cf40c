-- The deepest so far and those that the loop has still to see nest as deep as all; where what is left has texts all has.
use Rattle.std.proofs.Common.{◌≡◌, ◌≤◌, max, map, drop}
use Rattle.std.specs.List.{AllByRecursion}
use Rattle.model.specs.Cbor.{items_nesting, items_of}
use Rattle.model.specs.Transaction.{item_of_output}
use Rattle.tx.specs.Said.{IsSaidOutput}
use Rattle.tx.specs.View.{output_of}
use Rattle.tx.proofs.Depths.{IsPartSeen}
use Rattle.tx.proofs.nesting.outputs_nesting.Given as goal

abbrev pub invariant-loop-output : goal.invariant-loop-output
invariant-loop-output l = IsPartSeen item_of_output IsSaidOutput (map output_of l.outputs) (map output_of (drop l.output-index l.outputs)) l.deepest × (l.deepest ≤ 5)
