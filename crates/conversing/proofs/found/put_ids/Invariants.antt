-- With those that are still to be appended it is the whole list.
use Rattle.conversing.specs.Parts.{hex_text}
use Rattle.conversing.proofs.ListLaws.{IsPartListed}
use Rattle.conversing.proofs.found.put_ids.Given as goal

abbrev pub invariant-loop-id : goal.invariant-loop-id
invariant-loop-id l = IsPartListed hex_text l.fn.line.items l.ids l.line.items l.separator l.id-index
