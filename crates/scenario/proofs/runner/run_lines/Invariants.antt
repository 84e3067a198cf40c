use Rattle.chain_core.specs.Held.{network_held}
use Rattle.scenario.proofs.Runs.{Running}
use Rattle.scenario.proofs.runner.run_lines.Given as goal

-- the lines before the one of this number were run
abbrev pub invariant-loop-number : goal.invariant-loop-number
invariant-loop-number g l = Running l.fn.options g.S.SigScheme.verifies (network_held l.fn.session.core g.S.SigScheme.verifies) l.fn.session.core l.session l.before l.number (g.R.Read.remaining l.fn.reader) (g.R.Read.remaining l.reader) (g.W.Write.contents l.fn.writer) (g.W.Write.contents l.writer)
