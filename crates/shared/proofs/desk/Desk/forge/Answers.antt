use Rattle.shared.proofs.Forging.{forged_after, fault_after}
use Rattle.shared.proofs.desk.Desk.forge.Goals as goal

pub returns-clause-forged : goal.returns-clause-forged
returns-clause-forged g c =
    forged_after g.S.SigScheme.verifies g.B.Room.start c.self.inside.journal c.self.inside.core c.args.caller.now c.tell.new.caller c.args.slot c.forge-answer.result c.self.invariant c.tell.ensures.informed c.forge-answer.ensures.forged c.forge-answer.ensures.arrives

pub returns-clause-fault : goal.returns-clause-fault
returns-clause-fault g c =
    fault_after g.S.SigScheme.verifies g.B.Room.start c.self.inside.journal c.self.inside.core c.args.caller.now c.tell.new.caller c.args.slot c.forge-answer.result c.self.invariant c.tell.ensures.informed c.forge-answer.ensures.fault
