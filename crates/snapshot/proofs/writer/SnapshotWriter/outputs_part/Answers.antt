use Rattle.std.proofs.Common.{◌≡◌, [], ap, ◌∙◌, arith, length}
use Rattle.std.proofs.lemmas.List.{nil_from_length}
use Rattle.snapshot.proofs.FrontTexts.{holds_if, fails_if}
use Rattle.snapshot.proofs.Stepping.{not_zero, is_zero}
use Rattle.snapshot.proofs.Writing.{part_next, nothing_filled, all_written, stuck_after, too_long_after, more_left}
use Rattle.snapshot.proofs.writer.SnapshotWriter.outputs_part.Goals as goal

pub returns-then-is_done-clause-ended : goal.returns-then-is_done-clause-ended
returns-then-is_done-clause-ended c = all_written c.args.self.now c.requires (holds_if c.is_done.result _ c.is_done.ensures c.if-is_done.true)

pub returns-then-is_empty-clause-err : goal.returns-then-is_empty-clause-err
returns-then-is_empty-clause-err c =
    let empty = is_zero c.is_empty.result _ c.is_empty.ensures c.if-is_empty.true in
    let none : c.fill.new.part.items ≡ [] = nil_from_length _ (omega (arith, empty, c.fill.new.part.ok.0)) in
    nothing_filled c.args.self.now c.fill.new.self c.fill.new.part.items c.fill.ensures.front c.fill.ensures.filled none

pub returns-then-is_empty-clause-fault : goal.returns-then-is_empty-clause-fault
returns-then-is_empty-clause-fault c =
    let empty = is_zero c.is_empty.result _ c.is_empty.ensures c.if-is_empty.true in
    let none : c.fill.new.part.items ≡ [] = nil_from_length _ (omega (arith, empty, c.fill.new.part.ok.0)) in
    stuck_after c.args.self.now c.fill.new.self c.fill.new.part.items c.requires c.fill.ensures.front c.fill.ensures.filled none c.fill.ensures.full (fails_if c.is_done.result _ c.is_done.ensures c.if-is_done.false)

pub returns-then-is_empty-clause-long : goal.returns-then-is_empty-clause-long
returns-then-is_empty-clause-long c =
    let empty = is_zero c.is_empty.result _ c.is_empty.ensures c.if-is_empty.true in
    let none : c.fill.new.part.items ≡ [] = nil_from_length _ (omega (arith, empty, c.fill.new.part.ok.0)) in
    too_long_after c.args.self.now c.fill.new.self c.fill.new.part.items c.fill.ensures.front c.fill.ensures.filled none c.fill.ensures.full (fails_if c.is_done.result _ c.is_done.ensures c.if-is_done.false)

pub returns-then-is_empty-clause-more : goal.returns-then-is_empty-clause-more
returns-then-is_empty-clause-more c = more_left c.args.self.now c.requires (fails_if c.is_done.result _ c.is_done.ensures c.if-is_done.false)

pub returns-clause-part : goal.returns-clause-part
returns-clause-part c =
    part_next c.args.self.now c.fill.new.self c.fill.new.part.items c.requires (c.fill.ensures.front ∙ c.requires) c.fill.ensures.filled c.fill.ensures.full
    (λ none. let size = ap length none in not_zero c.is_empty.result _ c.is_empty.ensures c.if-is_empty.false (omega (arith, size, c.fill.new.part.ok.0)))
