use Rattle.shared.specs.Starts.{network_from}
use Rattle.shared.proofs.Adders.{IsRunning}
use Rattle.shared.proofs.adder.Adder.run.Given as goal

abbrev pub invariant-turns : goal.invariant-turns
invariant-turns g l = IsRunning (network_from g.B.Room.start g.S.SigScheme.verifies) l.fn.self l.self l.count l._turn
