-- None of those that were looked at is kept.
use Rattle.tx.specs.View.{output_of}
use Rattle.watching.specs.Which.{is_watched}
use Rattle.watching.proofs.Choosing.{ArePartSeen}
use Rattle.watching.proofs.which.Which.watches_some.Given as goal

abbrev pub invariant-loop-output : goal.invariant-loop-output
invariant-loop-output l = ArePartSeen (λ o. is_watched l.self (output_of o)) l.outputs l.output-index
