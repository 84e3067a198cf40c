use Rattle.std.proofs.Common.{refl, sym, subst}
use Rattle.model.specs.History.{Open}
use Rattle.model.specs.Journal.{Journal}
use Rattle.chain_core.specs.Views.{open_reply_of}
use Rattle.shared.specs.Entries.{call_by}
use Rattle.shared.specs.Standing.{IsCoreOf}
use Rattle.shared.proofs.Calls.{core_after}
use Rattle.shared.proofs.desk.Desk.open.Goals as goal

pub write-requires-clause-core : goal.write-requires-clause-core
write-requires-clause-core g c =
    core_after g.S.SigScheme.verifies g.B.Room.start c.self.inside.journal c.self.inside.journal c.self.inside.core c.open-answer.new.self (call_by c.args.caller.now.caller (Open) (open_reply_of c.open-answer.result)) c.entry-entry.result c.self.invariant refl
    (c.open-answer.ensures.step) c.open-answer.ensures.start tt c.entry-entry.ensures

pub invariant_of-self-2 : goal.invariant_of-self-2
invariant_of-self-2 g c =
    let core =
    core_after g.S.SigScheme.verifies g.B.Room.start c.self.inside.journal c.self.inside.journal c.self.inside.core c.open-answer.new.self (call_by c.args.caller.now.caller (Open) (open_reply_of c.open-answer.result)) c.entry-entry.result c.self.invariant refl
    (c.open-answer.ensures.step) c.open-answer.ensures.start tt c.entry-entry.ensures in
    subst (λ (j : Journal). IsCoreOf g.S.SigScheme.verifies g.B.Room.start j c.open-answer.new.self) (sym c.write.ensures.entries) core
