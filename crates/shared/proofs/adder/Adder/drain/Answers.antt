use Rattle.std.proofs.Common.{List, is_some, sym, ap, ◌∙◌, subst}
use Rattle.std.specs.List.{AllByRecursion}
use Rattle.shared.specs.Starts.{network_from}
use Rattle.inbox.specs.Arrivals.{SentBy}
use Rattle.shared.specs.Adding.{Adding, IsAllBrought}
use Rattle.shared.proofs.Adders.{held_some, taken_on, taken_step, added_on, all_brought, last_taken}
use Rattle.shared.proofs.adder.Adder.drain.Goals as goal

pub returns-then-is_none-clause-all : goal.returns-then-is_none-clause-all
returns-then-is_none-clause-all g c =
    let i = c.takes.invariant in
    let t = c.take_last.ensures in
    let step = taken_step c.takes.self c.take_last.new.self i.added.in_step i.none t.taken in
    let found = last_taken c.take_last.new.self c.takes.peers c.is_none.result (ap (λ (a : Adding). is_some a.held) (sym c.self.view_is) ∙ (held_some c.self.inside.held ∙ c.is_none.ensures)) c.if-is_none.true t.last in
    subst (λ (p : List SentBy). AllByRecursion (IsAllBrought c.take_last.new.self.knows.calls) p) i.peers (all_brought c.take_last.new.self c.takes.peers step found.0 found.1)

pub takes-preserved : goal.takes-preserved
takes-preserved g c =
    let network = network_from g.B.Room.start g.S.SigScheme.verifies in
    let i = c.takes.invariant in
    let t = c.take_last.ensures in
    let b = c.in_ok-bring_held-2.ensures in
    record {
      added = added_on network c.args.self.now c.take_last.new.self c.bring_held-in-takes.new.self (taken_on network c.args.self.now c.takes.self c.take_last.new.self i.added i.none t.taken) b.added;
      none = b.ok;
      peers = t.peers ∙ i.peers;
    }
