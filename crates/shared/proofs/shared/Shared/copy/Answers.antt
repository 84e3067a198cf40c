use Rattle.shared.specs.Starts.{network_from}
use Rattle.shared.proofs.Arriving.{quiet_looked}
use Rattle.shared.proofs.shared.Shared.copy.Goals as goal

pub invariant_of-caller : goal.invariant_of-caller
invariant_of-caller g c =
    let network = network_from g.B.Room.start g.S.SigScheme.verifies in
    quiet_looked network c.caller.inside.seat c.copy.new.caller _ c.copy.result c.copy.ensures.look c.copy.ensures.err c.caller.invariant
