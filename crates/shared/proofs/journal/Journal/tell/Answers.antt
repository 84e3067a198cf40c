use Rattle.std.proofs.Common.{subst}
use Rattle.shared.specs.Starts.{network_from}
use Rattle.model.specs.Journal.{Knowledge}
use Rattle.shared.specs.Heights.{knowledge_of}
use Rattle.shared.specs.Meeting.{IsInformed}
use Rattle.shared.proofs.Meetings.{informed_of}
use Rattle.shared.proofs.journal.Journal.tell.Goals as goal

pub returns-clause-informed : goal.returns-clause-informed
returns-clause-informed g c =
    let i = c.caller.invariant in
    subst (λ (k : Knowledge). IsInformed (network_from g.B.Room.start g.S.SigScheme.verifies) c.args.self.now k (knowledge_of c.caller.inside.number c.tell.new.seat.me.0)) c.caller.view_is
    (informed_of g.S.SigScheme.verifies g.B.Room.start c.caller.inside.number c.self.inside.writer.me.0 c.caller.inside.seat.me.0 c.tell.new.seat.me.0 c.args.self.now c.tell.ensures.told i.start_is i.role c.self.view_is)
