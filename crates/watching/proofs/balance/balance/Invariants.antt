-- What was added and what is still to be added are the whole.
use Rattle.std.specs.FinMap as finite
use Rattle.value.specs.Totals.{total_of}
use Rattle.watching.proofs.Summed.{IsPartSummed}
use Rattle.watching.proofs.balance.balance.Given as goal

abbrev pub invariant-loop-output : goal.invariant-loop-output
invariant-loop-output l = IsPartSummed (finite.entries l.outputs) (total_of l.totals) l.totals.values l.output-iterator
