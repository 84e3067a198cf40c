use Rattle.std.proofs.Common.{◌++◌, subst}
use Rattle.std.proofs.lemmas.Result.{on_ok_weaker}
use Rattle.model.specs.History.{Arrive, Step}
use Rattle.chain_core.specs.Views.{arrive_reply_of}
use Rattle.chain_core.specs.Held.{network_held}
use Rattle.script.specs.Meaning.{formed}
use Rattle.scenario.specs.Notes.{IsNoteOf}
use Rattle.scenario.specs.NoteView.{AppendsNote}
use Rattle.scenario.specs.Print.{arrival_text}
use Rattle.scenario.specs.Run.{entry}
use Rattle.scenario.proofs.NoteLines.{noted, not_noted}
use Rattle.scenario.proofs.session.Session.print_arrived.Goals as goal

pub returns-then-explain : goal.returns-then-explain
returns-then-explain g c =
    let network = network_held c.args.self.now.core g.S.SigScheme.verifies in
    let reply = arrive_reply_of c.args.reply in
    let form = c.args.form in
    let mid = c.print_arrival.new.line.items in
    let new = c.note_arrival.new.line.items in
    on_ok_weaker c.note_arrival.result (λ said. λ all named bound is s t stands step.
    noted network c.args.explain all.of_bytes s t (Arrive (formed form bound.bytes)) reply mid (c.args.line.now.items ++ arrival_text form c.args.name.now reply) new c.if-explain.true c.in_ok-print_arrival.ensures
    (subst (λ bytes. Step network s (Arrive (formed form bytes)) reply t → AppendsNote mid new (IsNoteOf network all.of_bytes s (Arrive (formed form bytes)) reply t))
    (c.bytes_named-bytes.ensures all named bound is) (said all named s t stands) step)) c.note_arrival.ensures

pub returns-else-explain : goal.returns-else-explain
returns-else-explain g c =
    let network = network_held c.args.self.now.core g.S.SigScheme.verifies in
    let reply = arrive_reply_of c.args.reply in
    λ all named bound is s t stands step.
    not_noted network c.args.explain all.of_bytes s t (entry (Arrive (formed c.args.form bound.bytes)) reply) (c.args.line.now.items ++ arrival_text c.args.form c.args.name.now reply) c.print_arrival.new.line.items c.if-explain.false c.in_ok-print_arrival.ensures
