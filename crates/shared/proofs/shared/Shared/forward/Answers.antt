use Rattle.std.proofs.Common.{refl, map}
use Rattle.ident.specs.PointView.{point_of}
use Rattle.shared.specs.Starts.{network_from}
use Rattle.model.specs.History.{Forward}
use Rattle.chain_core.specs.Views.{forward_reply_of}
use Rattle.shared.specs.Entries.{call_by}
use Rattle.shared.proofs.Arriving.{quiet_called}
use Rattle.shared.proofs.shared.Shared.forward.Goals as goal

pub invariant_of-caller : goal.invariant_of-caller
invariant_of-caller g c =
    quiet_called (network_from g.B.Room.start g.S.SigScheme.verifies) c.caller.inside.seat c.forward.new.caller (call_by c.caller.inside.seat.caller (Forward c.args.id.number (map point_of c.args.points.now)) (forward_reply_of c.forward.result)) c.forward.ensures.called refl c.caller.invariant
