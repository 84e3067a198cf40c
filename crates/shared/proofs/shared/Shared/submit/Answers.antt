use Rattle.std.proofs.Common.{Ok}
use Rattle.shared.specs.Starts.{network_from}
use Rattle.model.specs.History.{Submit}
use Rattle.chain_core.specs.Views.{submit_reply_of}
use Rattle.shared.proofs.Arriving.{quiet_if}
use Rattle.shared.proofs.shared.Shared.submit.Goals as goal

pub invariant_of-caller : goal.invariant_of-caller
invariant_of-caller g c =
    quiet_if (network_from g.B.Room.start g.S.SigScheme.verifies) c.caller.inside.seat c.submit.new.caller (Submit c.args.bytes.now) (λ r. submit_reply_of (Ok r)) c.submit.result c.submit.ensures.called c.submit.ensures.caller c.caller.invariant
