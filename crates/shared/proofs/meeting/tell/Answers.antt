use Rattle.std.proofs.Common.{ap, sym, subst, ◌∙◌}
use Rattle.shared.specs.Heights.{SeatView}
use Rattle.shared.specs.Meeting.{IsTold}
use Rattle.shared.proofs.Meetings.{told_of, still_on}
use Rattle.shared.proofs.meeting.tell.Goals as goal

pub returns-clause-told : goal.returns-clause-told
returns-clause-told g c =
    subst (λ (w : SeatView). IsTold g.S.SigScheme.verifies c.args.writer.now.me.0 c.args.seat.now.me.0 w) (sym (ap (λ m. m.0) c.measure-2.ensures.seat.0))
    (told_of g.S.SigScheme.verifies c.args.writer.now.me.0 c.args.seat.now.me.0 c.measure.new.writer.me.0 c.measure.new.seat.me.0 c.learn.new.seat.me.0 c.look.new.seat.me.0 c.learn.new.writer.me.0 c.look.result c.measure.ensures.begins c.measure.ensures.writer.seen
    (ap (λ m. m.0) c.measure.ensures.seat.0) (ap (λ m. m.0) c.learn.ensures.seat.0) c.look.ensures.looked
    (ap (λ m. m.0.seen) c.learn.ensures.writer.0 ∙ c.measure.ensures.writer.seen) c.measure-2.ensures.begins)

pub returns-clause-writer : goal.returns-clause-writer
returns-clause-writer g c =
    still_on c.args.writer.now.me.0 c.measure.new.writer.me.0 c.learn.new.writer.me.0 c.measure-2.new.writer.me.0 c.measure.ensures.writer (ap (λ m. m.0) c.learn.ensures.writer.0) c.measure-2.ensures.writer
