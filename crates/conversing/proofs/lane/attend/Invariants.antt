-- The lines so far were answered.
use Rattle.conversing.proofs.TalkLaws.{IsUnderway}
use Rattle.conversing.proofs.lane.attend.Given as goal

abbrev pub invariant-loop : goal.invariant-loop
invariant-loop g l = IsUnderway g.D.Desk.answers l.fn.desk l.desk (g.R.Read.remaining l.fn.reader) (g.R.Read.remaining l.reader) (g.W.Write.contents l.fn.writer) (g.W.Write.contents l.writer)
