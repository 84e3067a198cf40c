use Rattle.shared.specs.Starts.{network_from}
use Rattle.model.specs.History.{Discard}
use Rattle.chain_core.specs.Views.{discard_reply_of}
use Rattle.shared.specs.Entries.{call_by}
use Rattle.std.proofs.Common.{refl}
use Rattle.shared.proofs.Arriving.{quiet_called}
use Rattle.shared.proofs.shared.Shared.discard.Goals as goal

pub invariant_of-caller : goal.invariant_of-caller
invariant_of-caller g c =
    quiet_called (network_from g.B.Room.start g.S.SigScheme.verifies) c.caller.inside.seat c.discard.new.caller (call_by c.caller.inside.seat.caller (Discard c.args.hash.bytes) (discard_reply_of c.discard.result)) c.discard.ensures.called refl c.caller.invariant
