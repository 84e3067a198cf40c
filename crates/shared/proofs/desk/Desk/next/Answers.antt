use Rattle.std.proofs.Common.{refl, ◌≡◌, true, sym, subst, ◌≢◌, ◌∙◌}
use Rattle.shared.specs.Starts.{network_from}
use Rattle.model.specs.History.{Next, OutOfMemory}
use Rattle.model.specs.Journal.{Journal}
use Rattle.chain_core.specs.Views.{next_reply_of}
use Rattle.std.proofs.lemmas.Bool.{false≢true}
use Rattle.shared.specs.Answers.{IsJournaled}
use Rattle.shared.specs.Entries.{call_by}
use Rattle.shared.specs.Standing.{IsCoreOf}
use Rattle.shared.proofs.Calls.{core_after, want_is, answered_as, journaled_as}
use Rattle.shared.proofs.desk.Desk.next.Goals as goal

pub write-requires-clause-core : goal.write-requires-clause-core
write-requires-clause-core g c =
    core_after g.S.SigScheme.verifies g.B.Room.start c.self.inside.journal c.self.inside.journal c.self.inside.core c.next-answer.new.self (call_by c.args.caller.now.caller (Next c.args.id.number) (next_reply_of c.next-answer.result)) c.entry-entry.result c.self.invariant refl
    (c.next-answer.ensures.step) c.next-answer.ensures.start tt c.entry-entry.ensures

pub invariant_of-self-2 : goal.invariant_of-self-2
invariant_of-self-2 g c =
    let core =
    core_after g.S.SigScheme.verifies g.B.Room.start c.self.inside.journal c.self.inside.journal c.self.inside.core c.next-answer.new.self (call_by c.args.caller.now.caller (Next c.args.id.number) (next_reply_of c.next-answer.result)) c.entry-entry.result c.self.invariant refl
    (c.next-answer.ensures.step) c.next-answer.ensures.start tt c.entry-entry.ensures in
    subst (λ (j : Journal). IsCoreOf g.S.SigScheme.verifies g.B.Room.start j c.next-answer.new.self) (sym c.write.ensures.entries) core

pub returns-clause-answered : goal.returns-clause-answered
returns-clause-answered g c =
    let enough : next_reply_of c.next-answer.result ≢ OutOfMemory = λ e. let yes : c.is_want.result ≡ true = c.is_want.ensures.1 (want_is c.next-answer.result e) in absurd (false≢true (sym c.if-is_want.false ∙ yes)) in
    answered_as (network_from g.B.Room.start g.S.SigScheme.verifies) c.args.caller.now (Next c.args.id.number) (next_reply_of c.next-answer.result) (next_reply_of c.next-answer.result) c.entry-entry.result c.write.new.caller enough refl c.entry-entry.ensures c.write.ensures.called

pub returns-clause-journal : goal.returns-clause-journal
returns-clause-journal g c =
    let enough : next_reply_of c.next-answer.result ≢ OutOfMemory = λ e. let yes : c.is_want.result ≡ true = c.is_want.ensures.1 (want_is c.next-answer.result e) in absurd (false≢true (sym c.if-is_want.false ∙ yes)) in
    subst (λ (old : Journal). IsJournaled old c.args.caller.now.caller (Next c.args.id.number) (next_reply_of c.next-answer.result) c.write.new.self) c.self.view_is
    (journaled_as c.self.inside.journal c.self.inside.journal c.args.caller.now.caller (Next c.args.id.number) (next_reply_of c.next-answer.result) (next_reply_of c.next-answer.result) c.entry-entry.result c.write.new.self enough refl c.entry-entry.ensures refl c.write.ensures.entries)
