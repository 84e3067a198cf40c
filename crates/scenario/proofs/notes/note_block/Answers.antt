use Rattle.std.proofs.Common.{subst}
use Rattle.model.specs.Asked.{IsWhyOf}
use Rattle.chain_core.specs.Held.{network_held}
use Rattle.chain_core.specs.Ways.{why_of}
use Rattle.scenario.specs.Answers.{why_answer_text}
use Rattle.scenario.proofs.NoteLines.{never_default, note_behind}
use Rattle.scenario.proofs.notes.note_block.Goals as goal

pub returns-in_default : goal.returns-in_default
returns-in_default g c = λ all named s t stands back added kept.
    absurd (never_default (network_held c.args.core.now g.S.SigScheme.verifies) s t c.args.bytes.now back added c.in_ok-block.field-0 c.in_default.not-Ok c.in_ok-block.ensures.bad kept)

pub returns : goal.returns
returns g c = λ all named s t stands back added kept.
    let network = network_held c.args.core.now g.S.SigScheme.verifies in
    let why = why_of c.in_ok-why.why in
    let read = rw c.in-Ok.is at c.in_ok-block.ensures.block in (
      c.in-Ok.block,
      read.read,
      (
        why,
        subst (λ hash. IsWhyOf network t hash why) c.hash.ensures (c.in_ok-why.ensures.why t stands),
        note_behind c.args.line.now.items c.extend_from_slice.new.self.items c.print_reason.new.line.items c.push.new.self.items (why_answer_text all.of_bytes why)
            c.in_ok-extend_from_slice.ensures.items (c.in_ok-print_reason.ensures all named) c.in_ok-push.ensures.items,
      ),
    )
