-- With those that are still to be appended it is the whole list.
use Rattle.conversing.specs.Found.{output_text}
use Rattle.conversing.proofs.ListLaws.{IsPartListed}
use Rattle.conversing.proofs.found.put_outputs.Given as goal

abbrev pub invariant-loop-output : goal.invariant-loop-output
invariant-loop-output l = IsPartListed output_text l.fn.line.items l.outputs l.line.items l.separator l.output-index
