-- What is printed so far and the names of the rest are the names of all.
use Rattle.scenario.proofs.SubmissionLines.{IsPartPrinted}
use Rattle.scenario.proofs.print.print_waiting.Given as goal

abbrev pub invariant-loop-tx : goal.invariant-loop-tx
invariant-loop-tx g l = IsPartPrinted l.names l.initial.line.items l.line.items l.fn.mempool.waiting.txs l.tx-iterator
