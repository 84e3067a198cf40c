use Rattle.std.proofs.Common.{sym, subst}
use Rattle.std.proofs.lemmas.Result.{on_ok_weaker}
use Rattle.model.specs.Cbor.{text_of}
use Rattle.model.specs.Transaction.{Transaction, SpellsTransaction, item_of_transaction}
use Rattle.model.specs.Asked.{ExplainsSubmission}
use Rattle.chain_core.specs.Held.{network_held}
use Rattle.script.specs.Names.{bound_to}
use Rattle.scenario.proofs.SubmissionLines.{one_named}
use Rattle.scenario.proofs.NoteLines.{submission_noted}
use Rattle.scenario.proofs.notes.note_submission.Goals as goal

pub returns : goal.returns
returns g c =
    let network = network_held c.args.core.now g.S.SigScheme.verifies in
    let refused = c.in-Ok-Refused in
    on_ok_weaker c.note_refusal.result (λ said. λ all named tx is s t stands step.
    let same = one_named c.in-Some.tx.now tx (bound_to c.args.name.now all.of_txs) (c.in-Some.ensures all named) is in
    let spelled = subst (λ (x : Transaction). SpellsTransaction x c.deref.result.now) same (subst (SpellsTransaction c.in-Some.tx.now) (sym c.deref.ensures.value) c.in_ok-bytes.ensures) in
    let told = said t stands in
    submission_noted network all.of_bytes s t (text_of (item_of_transaction tx)) c.args.line.now.items c.note_refusal.new.line.items c.args.reply refused.field-0 refused.field-0-0 told.0 refused.is (rw refused.is at refused.field-0-is) step
    (subst (λ bs. ExplainsSubmission network t bs told.0) spelled.text.spelled told.1) told.2) c.note_refusal.ensures
