use Rattle.std.proofs.Common.{◌++◌, refl, subst}
use Rattle.model.specs.Ledger.{Network, network_on}
use Rattle.model.specs.History.{Submit, Step}
use Rattle.model.specs.Cbor.{text_of}
use Rattle.model.specs.Transaction.{item_of_transaction}
use Rattle.chain_core.specs.Views.{submit_reply_of}
use Rattle.chain_core.specs.Held.{network_held}
use Rattle.script.specs.Meaning.{SubmitsTx}
use Rattle.scenario.specs.Notes.{IsNote}
use Rattle.scenario.specs.NoteView.{AppendsNote}
use Rattle.scenario.specs.Print.{submission_text}
use Rattle.scenario.specs.Run.{entry}
use Rattle.scenario.proofs.SubmissionLines.{submission_told}
use Rattle.scenario.proofs.ShortLines.{it_happened}
use Rattle.scenario.proofs.session.Session.submit.Goals as goal

pub returns-in-Ok-clause-obeyed : goal.returns-in-Ok-clause-obeyed
returns-in-Ok-clause-obeyed g c = λ s holds tx is.
    let network = network_held c.args.self.now.core g.S.SigScheme.verifies in
    let reply = submit_reply_of c.submit-reply.result in
    let step = c.submit-reply.ensures.step s.names holds.names tx is s.state holds.stands in
    submission_told network c.args.explain s c.args.name.text.now tx reply c.in_ok-line.line.items c.print_submitted.new.line.items _ c.in_ok-line.ensures.empty holds.names holds.indexes step
    (subst (λ (n : Network). Step n s.state (Submit (text_of (item_of_transaction tx))) reply step.0
    → AppendsNote (c.in_ok-line.line.items ++ submission_text c.args.name.text.now reply) c.print_submitted.new.line.items (IsNote n c.args.explain s.names.of_bytes s.state (entry (Submit (text_of (item_of_transaction tx))) reply) step.0))
    (λ j. network_on (c.submit-reply.ensures.start.genesis j) g.S.SigScheme.verifies (c.submit-reply.ensures.start.opened j))
    (c.in-Ok.ensures s.names holds.names tx is s.state step.0 step.2) step.1)

pub returns-in-Err-clause-obeyed : goal.returns-in-Err-clause-obeyed
returns-in-Err-clause-obeyed g c = λ s holds tx is.
    it_happened (network_held c.args.self.now.core g.S.SigScheme.verifies) s (SubmitsTx c.args.name.text.now tx) (Submit (text_of (item_of_transaction tx))) (submit_reply_of c.submit-reply.result) c.submit-reply.new.core refl (c.submit-reply.ensures.step s.names holds.names tx is s.state holds.stands)
