use Rattle.std.proofs.Common.{refl, sym, subst, map}
use Rattle.ident.specs.PointView.{point_of}
use Rattle.model.specs.History.{Forward}
use Rattle.model.specs.Journal.{Journal}
use Rattle.chain_core.specs.Views.{forward_reply_of}
use Rattle.shared.specs.Entries.{call_by}
use Rattle.shared.specs.Standing.{IsCoreOf}
use Rattle.shared.proofs.Calls.{core_after}
use Rattle.shared.proofs.desk.Desk.forward.Goals as goal

pub write-requires-clause-core : goal.write-requires-clause-core
write-requires-clause-core g c =
    core_after g.S.SigScheme.verifies g.B.Room.start c.self.inside.journal c.self.inside.journal c.self.inside.core c.forward-answer.new.self (call_by c.args.caller.now.caller (Forward c.args.id.number (map point_of c.args.points.now)) (forward_reply_of c.forward-answer.result)) c.entry-entry.result c.self.invariant refl
    c.forward-answer.ensures.step c.forward-answer.ensures.start tt c.entry-entry.ensures

pub invariant_of-self : goal.invariant_of-self
invariant_of-self g c =
    let core =
    core_after g.S.SigScheme.verifies g.B.Room.start c.self.inside.journal c.self.inside.journal c.self.inside.core c.forward-answer.new.self (call_by c.args.caller.now.caller (Forward c.args.id.number (map point_of c.args.points.now)) (forward_reply_of c.forward-answer.result)) c.entry-entry.result c.self.invariant refl
    c.forward-answer.ensures.step c.forward-answer.ensures.start tt c.entry-entry.ensures in
    subst (λ (j : Journal). IsCoreOf g.S.SigScheme.verifies g.B.Room.start j c.forward-answer.new.self) (sym c.write.ensures.entries) core
