use Rattle.std.proofs.Common.{◌≡◌, ◌+◌, List, length, take, sym, ap, subst, ◌∙◌, arith}
use Rattle.std.proofs.lemmas.List.{length_push, take_all}
use Rattle.model.specs.Chain.{IsOpening}
use Rattle.chain_core.specs.Held.{Held, network_held}
use Rattle.chain_core.specs.declared.event.RawEvent.{RawEvent}
use Rattle.chain_core.specs.declared.event.Reply.{Reply}
use Rattle.chain_core.specs.Calls.{IsCall, AreCalls}
use Rattle.chain_core.proofs.Runs.{calls_with, kinds_of, ran_of, theorem_of}
use Rattle.chain_core.proofs.node_core.Core.run.Goals as goal

pub loop-event-preserved : goal.loop-event-preserved
loop-event-preserved g c =
    let before = c.loop-event.invariant in
    let pushed = c.in_ok-push.ensures.items in
    let answered = c.answer-reply.ensures in
    let call : IsCall g.S.SigScheme.verifies c.loop-event.self c.event-item.result c.answer-reply.result c.answer-reply.new.self = record {
      kind = answered.kind;
      step = answered.step;
      want = answered.want;
      start = answered.start;
      left = answered.left;
    } in
    record {
      count = ap length pushed ∙ (length_push c.loop-event.replies.items c.answer-reply.result ∙ (let e = before.count in omega arith));
      room = let a = before.room in let b = c.in_ok-push.ensures.capacity in omega arith;
      calls = subst (λ (rs : List (Reply _)). AreCalls g.S.SigScheme.verifies c.args.self.now (take (c.loop-event.event-index + 1) c.args.events.now) rs c.answer-reply.new.self) (sym pushed)
          (calls_with g.S.SigScheme.verifies c.args.self.now c.args.events.now c.loop-event.event-index c.event-item.result c.loop-event.replies.items c.answer-reply.result c.loop-event.self c.answer-reply.new.self c.loop-event-test.true c.event-item.is before.calls call);
      start = record {
        genesis = answered.start.genesis ∙ before.start.genesis;
        opened = answered.start.opened ∙ before.start.opened;
      };
    }

pub returns-clause-calls : goal.returns-clause-calls
returns-clause-calls g c =
    let all : take c.loop-event.event-index c.args.events.now ≡ c.args.events.now = take_all c.loop-event.event-index c.args.events.now c.loop-event-test.false in
    subst (λ (es : List RawEvent). AreCalls g.S.SigScheme.verifies c.args.self.now es c.loop-event.replies.items c.loop-event.self) all c.loop-event.invariant.calls

pub returns-clause-kinds : goal.returns-clause-kinds
returns-clause-kinds g c =
    let all : take c.loop-event.event-index c.args.events.now ≡ c.args.events.now = take_all c.loop-event.event-index c.args.events.now c.loop-event-test.false in
    kinds_of g.S.SigScheme.verifies c.args.self.now c.args.events.now c.loop-event.replies.items c.loop-event.self
    (subst (λ (es : List RawEvent). AreCalls g.S.SigScheme.verifies c.args.self.now es c.loop-event.replies.items c.loop-event.self) all c.loop-event.invariant.calls)

pub returns-clause-run : goal.returns-clause-run
returns-clause-run g c =
    let all : take c.loop-event.event-index c.args.events.now ≡ c.args.events.now = take_all c.loop-event.event-index c.args.events.now c.loop-event-test.false in
    ran_of g.S.SigScheme.verifies c.args.self.now c.args.events.now c.loop-event.replies.items c.loop-event.self
    (subst (λ (es : List RawEvent). AreCalls g.S.SigScheme.verifies c.args.self.now es c.loop-event.replies.items c.loop-event.self) all c.loop-event.invariant.calls)

pub returns-clause-theorem : goal.returns-clause-theorem
returns-clause-theorem g c =
    let all : take c.loop-event.event-index c.args.events.now ≡ c.args.events.now = take_all c.loop-event.event-index c.args.events.now c.loop-event-test.false in
    λ opened. theorem_of (network_held c.args.self.now g.S.SigScheme.verifies) c.args.self.now c.args.events.now c.loop-event.replies.items c.loop-event.self (subst (λ (h : Held). IsOpening (network_held h g.S.SigScheme.verifies)) c.self.view_is c.self.invariant.opens) opened
    (ran_of g.S.SigScheme.verifies c.args.self.now c.args.events.now c.loop-event.replies.items c.loop-event.self
    (subst (λ (es : List RawEvent). AreCalls g.S.SigScheme.verifies c.args.self.now es c.loop-event.replies.items c.loop-event.self) all c.loop-event.invariant.calls))
