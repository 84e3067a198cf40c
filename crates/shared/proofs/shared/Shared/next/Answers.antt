use Rattle.shared.specs.Starts.{network_from}
use Rattle.model.specs.History.{Next}
use Rattle.chain_core.specs.Views.{next_reply_of}
use Rattle.shared.proofs.Arriving.{quiet_answered}
use Rattle.shared.proofs.shared.Shared.next.Goals as goal

pub invariant_of-caller : goal.invariant_of-caller
invariant_of-caller g c =
    quiet_answered (network_from g.B.Room.start g.S.SigScheme.verifies) c.caller.inside.seat (Next c.args.id.number) (next_reply_of c.next.result) c.next.new.caller c.next.ensures.answered c.caller.invariant
