use Rattle.std.proofs.Common.{refl, sym, subst}
use Rattle.model.specs.History.{Discard}
use Rattle.model.specs.Journal.{Journal}
use Rattle.chain_core.specs.Views.{discard_reply_of}
use Rattle.shared.specs.Entries.{call_by}
use Rattle.shared.specs.Standing.{IsCoreOf}
use Rattle.shared.proofs.Calls.{core_after}
use Rattle.shared.proofs.desk.Desk.discard.Goals as goal

pub write-requires-clause-core : goal.write-requires-clause-core
write-requires-clause-core g c =
    core_after g.S.SigScheme.verifies g.B.Room.start c.self.inside.journal c.self.inside.journal c.self.inside.core c.discard-answer.new.self (call_by c.args.caller.now.caller (Discard c.args.hash.bytes) (discard_reply_of c.discard-answer.result)) c.entry-entry.result c.self.invariant refl
    (c.discard-answer.ensures.step) c.discard-answer.ensures.start tt c.entry-entry.ensures

pub invariant_of-self : goal.invariant_of-self
invariant_of-self g c =
    let core =
    core_after g.S.SigScheme.verifies g.B.Room.start c.self.inside.journal c.self.inside.journal c.self.inside.core c.discard-answer.new.self (call_by c.args.caller.now.caller (Discard c.args.hash.bytes) (discard_reply_of c.discard-answer.result)) c.entry-entry.result c.self.invariant refl
    (c.discard-answer.ensures.step) c.discard-answer.ensures.start tt c.entry-entry.ensures in
    subst (λ (j : Journal). IsCoreOf g.S.SigScheme.verifies g.B.Room.start j c.discard-answer.new.self) (sym c.write.ensures.entries) core
