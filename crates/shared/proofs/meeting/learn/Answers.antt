use Rattle.std.proofs.Common.{◌≡◌, sym, ap, ◌∙◌, arith}
use Rattle.shared.specs.Heights.{Carries, Spent}
use Rattle.shared.specs.Starts.{start_of}
use Rattle.shared.proofs.Moves.{copies, learns}
use Rattle.shared.proofs.meeting.learn.Goals as goal

pub split_seat-note-requires : goal.split_seat-note-requires
split_seat-note-requires g c =
    let r = c.requires in
    (r.writer, (let w = r.word in omega arith), copies g.S.SigScheme.verifies (start_of c.args.heights.now.shared.key) _ c.args.writer.now.me.0 r.serves)

pub join_seat-requires : goal.join_seat-requires
join_seat-requires g c =
    let r = c.requires in
    let note = c.split_seat-note.ensures in
    let is = note.4 in (
      r.seat,
      note.3 ∙ r.writer,
      ap (λ m. m.1) is,
      (let w = r.word in omega arith),
      learns g.S.SigScheme.verifies (start_of c.args.heights.now.shared.key) _ c.args.seat.now.me.0 _ c.split_seat-note.result.me.0 r.seat_serves
          (λ spent. let e : Carries ≡ Spent = sym (ap (λ m. m.0.role) is) ∙ spent in absurd (cc)) r.reads,
    )
