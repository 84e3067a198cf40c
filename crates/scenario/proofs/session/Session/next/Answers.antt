use Rattle.chain_core.specs.Held.{network_held}
use Rattle.scenario.proofs.NextLines.{telling_acted}
use Rattle.std.proofs.Common.{refl}
use Rattle.model.specs.History.{Next}
use Rattle.chain_core.specs.Views.{next_reply_of}
use Rattle.script.specs.Meaning.{TellsFollower}
use Rattle.scenario.proofs.ShortLines.{it_happened}
use Rattle.scenario.proofs.session.Session.next.Goals as goal

pub returns-in_default-clause-obeyed : goal.returns-in_default-clause-obeyed
returns-in_default-clause-obeyed g c = λ s holds.
    it_happened (network_held c.args.self.now.core g.S.SigScheme.verifies) s (TellsFollower c.args.name.text.now c.args.id) (Next c.args.id) (next_reply_of c.next-reply.result) c.next-reply.new.self refl (c.next-reply.ensures.step s.state holds.stands)

pub returns-in-Ok-tell-clause-obeyed : goal.returns-in-Ok-tell-clause-obeyed
returns-in-Ok-tell-clause-obeyed g c = λ s holds.
    telling_acted (network_held c.args.self.now.core g.S.SigScheme.verifies) s c.args.name.text.now c.args.id c.next-reply.result c.in_ok-line.line.items c.print_next.new.line.items c.tell.new.line.items c.args.self.now.core c.args.self.now.indexes _
    c.in_ok-line.ensures.empty (c.in-Ok.ensures s.names holds.names)
    holds.stands c.next-reply.ensures.memory holds.names holds.indexes (c.in-Ok-tell.ensures s.indexes) (c.next-reply.ensures.step s.state holds.stands)

pub returns-in-Err-clause-obeyed : goal.returns-in-Err-clause-obeyed
returns-in-Err-clause-obeyed g c = λ s holds.
    it_happened (network_held c.args.self.now.core g.S.SigScheme.verifies) s (TellsFollower c.args.name.text.now c.args.id) (Next c.args.id) (next_reply_of c.next-reply.result) c.next-reply.new.self refl (c.next-reply.ensures.step s.state holds.stands)
