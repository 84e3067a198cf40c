use Rattle.std.proofs.Common.{subst}
use Rattle.shared.specs.Starts.{network_from}
use Rattle.model.specs.Journal.{Knowledge, IsLook}
use Rattle.shared.specs.Heights.{knowledge_of}
use Rattle.shared.proofs.Calls.{look_of}
use Rattle.shared.proofs.caller_seat.CallerSeat.look.Goals as goal

pub returns : goal.returns
returns g c =
    let i = c.self.invariant in
    subst (λ (k : Knowledge). IsLook (network_from g.B.Room.start g.S.SigScheme.verifies) k c.look.result (knowledge_of c.self.inside.number c.look.new.seat.me.0)) c.self.view_is
    (look_of g.S.SigScheme.verifies g.B.Room.start c.self.inside.number c.self.inside.seat.me.0 c.look.result c.look.new.seat.me.0 i.start_is i.role c.look.ensures.looked)
