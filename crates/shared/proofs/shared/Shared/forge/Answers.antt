use Rattle.shared.proofs.Forging.{quiet_forged}
use Rattle.shared.proofs.shared.Shared.forge.Goals as goal

pub invariant_of-caller : goal.invariant_of-caller
invariant_of-caller g c =
    quiet_forged g.S.SigScheme.verifies g.B.Room.start c.caller.inside.seat c.forge.new.caller c.args.slot c.forge.result c.forge.ensures.forged c.forge.ensures.fault c.caller.invariant
