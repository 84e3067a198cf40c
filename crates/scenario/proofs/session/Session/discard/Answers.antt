use Rattle.std.proofs.Common.{refl}
use Rattle.chain_core.specs.Views.{discard_reply_of}
use Rattle.scenario.specs.Print.{discarding_text}
use Rattle.chain_core.specs.Held.{network_held}
use Rattle.scenario.proofs.NextLines.{behind_nothing, discard_enough, discarding_acted}
use Rattle.model.specs.History.{Discard}
use Rattle.script.specs.Meaning.{DiscardsBlock}
use Rattle.scenario.proofs.ShortLines.{it_happened}
use Rattle.scenario.proofs.session.Session.discard.Goals as goal

pub returns-in-Ok-clause-obeyed : goal.returns-in-Ok-clause-obeyed
returns-in-Ok-clause-obeyed g c = λ s holds.
    discarding_acted (network_held c.args.self.now.core g.S.SigScheme.verifies) s c.args.name.text.now c.args.hash.bytes (discard_reply_of c.discard-reply.result) c.print_discarding.new.line.items _
    (behind_nothing c.print_discarding.new.line.items c.in_ok-line.line.items (discarding_text c.args.name.text.now (discard_reply_of c.discard-reply.result)) c.in-Ok.ensures c.in_ok-line.ensures.empty)
    (discard_enough c.discard-reply.result) holds.names holds.indexes (c.discard-reply.ensures.step s.state holds.stands)

pub returns-in-Err-clause-obeyed : goal.returns-in-Err-clause-obeyed
returns-in-Err-clause-obeyed g c = λ s holds.
    it_happened (network_held c.args.self.now.core g.S.SigScheme.verifies) s (DiscardsBlock c.args.name.text.now c.args.hash.bytes) (Discard c.args.hash.bytes) (discard_reply_of c.discard-reply.result) c.discard-reply.new.self refl (c.discard-reply.ensures.step s.state holds.stands)
