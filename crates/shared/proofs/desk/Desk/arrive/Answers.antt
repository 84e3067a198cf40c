use Rattle.std.proofs.Common.{refl, ℕ, List, Ok, sym, ap, subst}
use Rattle.model.specs.Ledger.{Network}
use Rattle.model.specs.History.{Arrive, Applies}
use Rattle.model.specs.Journal.{Journal}
use Rattle.model.proofs.Results.{on_err}
use Rattle.chain_core.specs.Views.{arrive_reply_of}
use Rattle.chain_core.specs.Steps.{Steps}
use Rattle.shared.specs.Entries.{arrival_by}
use Rattle.shared.specs.Starts.{Start, network_from}
use Rattle.shared.specs.Standing.{IsCoreOf}
use Rattle.shared.proofs.Calls.{core_after}
use Rattle.shared.proofs.desk.Desk.arrive.Goals as goal

pub write-requires-clause-core : goal.write-requires-clause-core
write-requires-clause-core g c =
    core_after g.S.SigScheme.verifies g.B.Room.start c.self.inside.journal c.self.inside.journal c.self.inside.core c.arrive_lent.new.self (arrival_by c.args.caller.now.caller c.args.peer c.bytes.result.now (arrive_reply_of (Ok c.in_ok-reply.reply))) c.entry-entry.result c.self.invariant refl
    (subst (λ (bs : List ℕ). Steps g.S.SigScheme.verifies c.self.inside.core (Arrive bs) (arrive_reply_of (Ok c.in_ok-reply.reply)) c.arrive_lent.new.self) (sym c.bytes.ensures) c.in_ok-reply.ensures.step) c.arrive_lent.ensures.start c.requires.peer c.entry-entry.ensures

pub invariant_of-self-2 : goal.invariant_of-self-2
invariant_of-self-2 g c =
    let core =
    core_after g.S.SigScheme.verifies g.B.Room.start c.self.inside.journal c.self.inside.journal c.self.inside.core c.arrive_lent.new.self (arrival_by c.args.caller.now.caller c.args.peer c.bytes.result.now (arrive_reply_of (Ok c.in_ok-reply.reply))) c.entry-entry.result c.self.invariant refl
    (subst (λ (bs : List ℕ). Steps g.S.SigScheme.verifies c.self.inside.core (Arrive bs) (arrive_reply_of (Ok c.in_ok-reply.reply)) c.arrive_lent.new.self) (sym c.bytes.ensures) c.in_ok-reply.ensures.step) c.arrive_lent.ensures.start c.requires.peer c.entry-entry.ensures in
    subst (λ (j : Journal). IsCoreOf g.S.SigScheme.verifies g.B.Room.start j c.arrive_lent.new.self) (sym c.write.ensures.entries) core

pub returns-in_err-reply-clause-memory : goal.returns-in_err-reply-clause-memory
returns-in_err-reply-clause-memory g c =
    let verifies = g.S.SigScheme.verifies in
    let core = c.self.inside.core in
    on_err c.from_residual.result _ (record {
      held = core;
      core = subst (λ (j : Journal). IsCoreOf verifies g.B.Room.start j core) c.self.view_is c.self.invariant;
      want = λ s stands refusal applies. c.in_err-reply.ensures.memory s stands refusal
          (subst (λ (n : Network). Applies n s c.args.seen.now refusal) (sym (ap (λ (x : Start). network_from x verifies) c.self.invariant.start_is)) applies);
    })
