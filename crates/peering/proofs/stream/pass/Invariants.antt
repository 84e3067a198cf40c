-- What was passed over stood first.
use Rattle.peering.proofs.StreamLaws.{IsPassed}
use Rattle.peering.proofs.stream.pass.Given as goal

abbrev pub invariant-loop : goal.invariant-loop
invariant-loop g l = IsPassed (g.R.Read.remaining l.fn.reader) (g.R.Read.remaining l.reader) l.count l.left
