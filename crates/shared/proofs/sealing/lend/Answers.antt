use Rattle.std.proofs.Common.{◌≡◌, sym, ap, ◌∙◌, arith}
use Rattle.shared.specs.Heights.{Carries, Spent}
use Rattle.shared.specs.Starts.{start_of}
use Rattle.shared.proofs.Moves.{lends, takes_in}
use Rattle.shared.proofs.sealing.lend.Goals as goal

pub split_seat-note-requires : goal.split_seat-note-requires
split_seat-note-requires g c =
    let r = c.requires in
    (r.from, (let w = r.word in omega arith), lends g.S.SigScheme.verifies (start_of c.args.heights.now.shared.key) _ c.args.from.now.me.0 r.right r.serves)

pub join_seat-requires : goal.join_seat-requires
join_seat-requires g c =
    let r = c.requires in
    let note = c.split_seat-note.ensures in
    let is = note.4 in (
      r.to,
      note.3 ∙ r.from,
      ap (λ m. m.1) is,
      (let w = r.word in omega arith),
      takes_in g.S.SigScheme.verifies (start_of c.args.heights.now.shared.key) _ c.args.to.now.me.0 _ c.split_seat-note.result.me.0 r.to_serves (ap (λ m. m.0.writes) is)
          (λ spent. let e : Carries ≡ Spent = sym (ap (λ m. m.0.role) is) ∙ spent in absurd (cc)),
    )
