use Rattle.std.proofs.Common.{◌++◌}
use Rattle.std.proofs.lemmas.Result.{on_ok_weaker}
use Rattle.model.specs.Cbor.{text_of}
use Rattle.model.specs.Transaction.{item_of_transaction}
use Rattle.model.specs.History.{Submit}
use Rattle.chain_core.specs.Views.{submit_reply_of}
use Rattle.chain_core.specs.Held.{network_held}
use Rattle.scenario.specs.Print.{submission_text}
use Rattle.scenario.specs.Run.{entry}
use Rattle.scenario.proofs.NoteLines.{noted, not_noted}
use Rattle.scenario.proofs.session.Session.print_submitted.Goals as goal

pub returns-then-explain : goal.returns-then-explain
returns-then-explain g c =
    let network = network_held c.args.self.now.core g.S.SigScheme.verifies in
    let reply = submit_reply_of c.args.reply in
    on_ok_weaker c.note_submission.result (λ said. λ all named tx is s t stands step.
    noted network c.args.explain all.of_bytes s t (Submit (text_of (item_of_transaction tx))) reply c.print_submission.new.line.items (c.args.line.now.items ++ submission_text c.args.name.now reply) c.note_submission.new.line.items c.if-explain.true c.in_ok-print_submission.ensures
    (said all named tx is s t stands step)) c.note_submission.ensures

pub returns-else-explain : goal.returns-else-explain
returns-else-explain g c =
    let network = network_held c.args.self.now.core g.S.SigScheme.verifies in
    let reply = submit_reply_of c.args.reply in
    λ all named tx is s t stands step.
    not_noted network c.args.explain all.of_bytes s t (entry (Submit (text_of (item_of_transaction tx))) reply) (c.args.line.now.items ++ submission_text c.args.name.now reply) c.print_submission.new.line.items c.if-explain.false c.in_ok-print_submission.ensures
