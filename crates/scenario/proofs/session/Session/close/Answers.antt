use Rattle.std.proofs.Common.{refl}
use Rattle.chain_core.specs.Views.{close_reply_of}
use Rattle.scenario.specs.Print.{closing_text}
use Rattle.chain_core.specs.Held.{network_held}
use Rattle.scenario.proofs.NextLines.{behind_nothing, close_enough, closing_acted}
use Rattle.model.specs.History.{Close}
use Rattle.script.specs.Meaning.{ClosesFollower}
use Rattle.scenario.proofs.ShortLines.{it_happened}
use Rattle.scenario.proofs.session.Session.close.Goals as goal

pub returns-in-Ok-clause-obeyed : goal.returns-in-Ok-clause-obeyed
returns-in-Ok-clause-obeyed g c = λ s holds.
    closing_acted (network_held c.args.self.now.core g.S.SigScheme.verifies) s c.args.name.text.now c.args.id (close_reply_of c.close-reply.result) c.print_closing.new.line.items _
    (behind_nothing c.print_closing.new.line.items c.in_ok-line.line.items (closing_text c.args.name.text.now (close_reply_of c.close-reply.result)) c.in-Ok.ensures c.in_ok-line.ensures.empty)
    (close_enough c.close-reply.result) holds.names (c.closed.ensures s.indexes holds.indexes) (c.close-reply.ensures.step s.state holds.stands)

pub returns-in-Err-clause-obeyed : goal.returns-in-Err-clause-obeyed
returns-in-Err-clause-obeyed g c = λ s holds.
    it_happened (network_held c.args.self.now.core g.S.SigScheme.verifies) s (ClosesFollower c.args.name.text.now c.args.id) (Close c.args.id) (close_reply_of c.close-reply.result) c.close-reply.new.self refl (c.close-reply.ensures.step s.state holds.stands)
