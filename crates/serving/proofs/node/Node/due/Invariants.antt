-- Nothing was due so far.
use Rattle.shared.specs.Starts.{network_from}
use Rattle.serving.specs.Following.{HasIdled}
use Rattle.serving.proofs.node.Node.due.Given as goal

abbrev pub invariant-waits : goal.invariant-waits
invariant-waits g l = HasIdled (network_from g.B.Room.start g.S.SigScheme.verifies) l.id.number l.fn.caller l.caller
