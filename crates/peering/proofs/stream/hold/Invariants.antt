-- What is held stood first.
use Rattle.peering.proofs.StreamLaws.{IsHeld}
use Rattle.peering.proofs.stream.hold.Given as goal

abbrev pub invariant-loop : goal.invariant-loop
invariant-loop g l = IsHeld (g.R.Read.remaining l.fn.reader) (g.R.Read.remaining l.reader) l.held.items l.count
