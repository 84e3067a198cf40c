use Rattle.std.proofs.Common.{◌≡◌, sym, ap, ◌∙◌, arith}
use Rattle.shared.specs.Heights.{Carries, Spent}
use Rattle.shared.specs.Starts.{start_of}
use Rattle.shared.proofs.Moves.{copies, lays}
use Rattle.shared.proofs.Meetings.{measured_of, measured_begins}
use Rattle.shared.proofs.meeting.measure.Goals as goal

pub split_seat-note-requires : goal.split_seat-note-requires
split_seat-note-requires g c =
    let r = c.requires in
    (r.seat, (let w = r.word in omega arith), copies g.S.SigScheme.verifies (start_of c.args.heights.now.shared.key) _ c.args.seat.now.me.0 r.seat_serves)

pub join_seat-requires : goal.join_seat-requires
join_seat-requires g c =
    let r = c.requires in
    let note = c.split_seat-note.ensures in
    let is = note.4 in (
      r.writer,
      note.3 ∙ r.seat,
      ap (λ m. m.1) is,
      (let w = r.word in omega arith),
      lays g.S.SigScheme.verifies (start_of c.args.heights.now.shared.key) _ c.args.writer.now.me.0 _ c.split_seat-note.result.me.0 r.serves
          (λ spent. let e : Carries ≡ Spent = sym (ap (λ m. m.0.role) is) ∙ spent in absurd (cc)),
    )

pub returns-clause-begins : goal.returns-clause-begins
returns-clause-begins g c =
    measured_begins c.args.writer.now.me.0 c.join_seat.new.seat.me.0 c.compare.new.seat.me.0 c.args.seat.now.me.0 c.split_seat-note.result.me.0 c.compare.result (ap (λ m. m.0) c.split_seat-note.ensures.4) (ap (λ m. m.0) c.join_seat.ensures.2) c.compare.ensures.compared

pub returns-clause-writer : goal.returns-clause-writer
returns-clause-writer g c =
    measured_of c.args.writer.now.me.0 c.join_seat.new.seat.me.0 c.compare.new.seat.me.0 c.split_seat-note.result.me.0 c.compare.result c.requires.right (ap (λ m. m.0) c.join_seat.ensures.2) c.compare.ensures.compared
