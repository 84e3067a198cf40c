use Rattle.shared.specs.Starts.{network_from}
use Rattle.model.specs.History.{Open}
use Rattle.chain_core.specs.Views.{open_reply_of}
use Rattle.shared.proofs.Arriving.{quiet_answered}
use Rattle.shared.proofs.shared.Shared.open.Goals as goal

pub invariant_of-caller : goal.invariant_of-caller
invariant_of-caller g c =
    quiet_answered (network_from g.B.Room.start g.S.SigScheme.verifies) c.caller.inside.seat Open (open_reply_of c.open.result) c.open.new.caller c.open.ensures.answered c.caller.invariant
