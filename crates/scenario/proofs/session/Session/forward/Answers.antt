use Rattle.std.proofs.Common.{map, refl}
use Rattle.ident.specs.PointView.{point_of}
use Rattle.chain_core.specs.Views.{forward_reply_of}
use Rattle.scenario.specs.Print.{forwarding_text}
use Rattle.chain_core.specs.Held.{network_held}
use Rattle.scenario.proofs.NextLines.{behind_nothing, forward_enough, forwarding_acted}
use Rattle.model.specs.History.{Forward}
use Rattle.script.specs.Meaning.{ForwardsFollower}
use Rattle.scenario.proofs.ShortLines.{it_happened}
use Rattle.scenario.proofs.session.Session.forward.Goals as goal

pub returns-in-Ok-clause-obeyed : goal.returns-in-Ok-clause-obeyed
returns-in-Ok-clause-obeyed g c = λ s holds.
    forwarding_acted (network_held c.args.self.now.core g.S.SigScheme.verifies) s c.args.name.text.now c.args.id (map point_of c.args.points.now) (forward_reply_of c.forward-reply.result) c.print_forwarding.new.line.items _
    (behind_nothing c.print_forwarding.new.line.items c.in_ok-line.line.items (forwarding_text s.names.of_bytes c.args.name.text.now (forward_reply_of c.forward-reply.result)) (c.in-Ok.ensures s.names holds.names) c.in_ok-line.ensures.empty)
    (forward_enough c.forward-reply.result) holds.names (c.forwarded.ensures s.indexes holds.indexes) (c.forward-reply.ensures.step s.state holds.stands)

pub returns-in-Err-clause-obeyed : goal.returns-in-Err-clause-obeyed
returns-in-Err-clause-obeyed g c = λ s holds.
    it_happened (network_held c.args.self.now.core g.S.SigScheme.verifies) s (ForwardsFollower c.args.name.text.now c.args.id (map point_of c.args.points.now)) (Forward c.args.id (map point_of c.args.points.now)) (forward_reply_of c.forward-reply.result) c.forward-reply.new.self refl (c.forward-reply.ensures.step s.state holds.stands)
