use Rattle.scenario.specs.Print.{AppendsUpTo}
use Rattle.scenario.proofs.output.write_all.Given as goal

-- the bytes before the rest are written
abbrev pub invariant-loop : goal.invariant-loop
invariant-loop g l = AppendsUpTo (g.W.Write.contents l.fn.writer) (g.W.Write.contents l.writer) l.bytes l.rest
