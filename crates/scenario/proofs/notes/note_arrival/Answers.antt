use Rattle.std.proofs.Common.{sym, ◌∙◌, subst}
use Rattle.std.proofs.lemmas.Result.{on_ok_weaker}
use Rattle.chain_core.specs.Held.{network_held}
use Rattle.script.specs.Meaning.{formed}
use Rattle.scenario.proofs.NoteLines.{TellsWhy, arrival_noted}
use Rattle.scenario.proofs.notes.note_arrival.Goals as goal

pub returns : goal.returns
returns g c =
    let network = network_held c.args.core.now g.S.SigScheme.verifies in
    let bytes = formed c.args.form c.args.bytes.now in
    let old = c.args.line.now.items in
    let new = c.note_block.new.line.items in
    let kept = c.in-Ok-Kept-default-eq0 in
    on_ok_weaker c.note_block.result (λ said. λ all named s t stands step.
    arrival_noted network all.of_bytes s t bytes old new c.args.reply kept.field-0 kept.field-0-0 kept.field-0-1 kept.is (rw kept.is at kept.field-0-is) (sym kept.field-0-1-is ∙ kept.field-0-1-test) step
    (subst (λ bs. TellsWhy network all.of_bytes s t bs old new) (c.deref.ensures.value ∙ c.in_ok-bytes.ensures) (said all named s t stands))) c.note_block.ensures
