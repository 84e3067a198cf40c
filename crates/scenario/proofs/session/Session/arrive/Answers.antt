use Rattle.std.proofs.Common.{◌++◌, refl, subst}
use Rattle.model.specs.Ledger.{Network, network_on}
use Rattle.model.specs.History.{Arrive, Step}
use Rattle.chain_core.specs.Views.{arrive_reply_of}
use Rattle.chain_core.specs.Held.{network_held}
use Rattle.script.specs.Meaning.{Arrives, formed}
use Rattle.scenario.specs.Notes.{IsNote}
use Rattle.scenario.specs.NoteView.{AppendsNote}
use Rattle.scenario.specs.Print.{arrival_text}
use Rattle.scenario.specs.Run.{entry}
use Rattle.scenario.proofs.ArrivalLines.{arrival_told}
use Rattle.scenario.proofs.ShortLines.{it_happened}
use Rattle.scenario.proofs.session.Session.arrive.Goals as goal

pub returns-in-Ok-clause-obeyed : goal.returns-in-Ok-clause-obeyed
returns-in-Ok-clause-obeyed g c = λ s holds bound is.
    let network = network_held c.args.self.now.core g.S.SigScheme.verifies in
    let reply = arrive_reply_of c.arrive-reply.result in
    let step = rw (c.bytes_named-bytes.ensures s.names holds.names bound is) at (c.arrive-reply.ensures.step s.state holds.stands) in
    arrival_told network c.args.explain s c.args.form c.args.name.text.now bound.bytes reply c.in_ok-line.line.items c.print_arrived.new.line.items _ c.in_ok-line.ensures.empty holds.names holds.indexes step
    (subst (λ (n : Network). Step n s.state (Arrive (formed c.args.form bound.bytes)) reply step.0
    → AppendsNote (c.in_ok-line.line.items ++ arrival_text c.args.form c.args.name.text.now reply) c.print_arrived.new.line.items (IsNote n c.args.explain s.names.of_bytes s.state (entry (Arrive (formed c.args.form bound.bytes)) reply) step.0))
    (λ j. network_on (c.arrive-reply.ensures.start.genesis j) g.S.SigScheme.verifies (c.arrive-reply.ensures.start.opened j))
    (c.in-Ok.ensures s.names holds.names bound is s.state step.0 step.2) step.1)

pub returns-in-Err-clause-obeyed : goal.returns-in-Err-clause-obeyed
returns-in-Err-clause-obeyed g c = λ s holds bound is.
    it_happened (network_held c.args.self.now.core g.S.SigScheme.verifies) s (Arrives c.args.form c.args.name.text.now bound.bytes) (Arrive (formed c.args.form bound.bytes)) (arrive_reply_of c.arrive-reply.result) c.arrive-reply.new.core refl
    (rw (c.bytes_named-bytes.ensures s.names holds.names bound is) at (c.arrive-reply.ensures.step s.state holds.stands))
