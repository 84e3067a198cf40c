use Rattle.std.proofs.Common.{◌∙◌, sym, subst}
use Rattle.model.specs.Journal.{Journal}
use Rattle.shared.specs.Standing.{IsCoreOf}
use Rattle.shared.proofs.Meetings.{met_of}
use Rattle.shared.proofs.desk.Desk.meet.Goals as goal

pub returns-clause-meeting : goal.returns-clause-meeting
returns-clause-meeting g c =
    met_of g.S.SigScheme.verifies g.B.Room.start c.self.inside.journal c.tell.new.self c.args.one.now c.args.other.now c.tell.new.caller c.tell-2.new.caller c.tell.ensures.informed c.tell-2.ensures.informed c.tell.ensures.entries

pub returns-clause-seen : goal.returns-clause-seen
returns-clause-seen g c = (
  c.tell.ensures.informed.seen ∙ sym (c.tell-2.ensures.entries ∙ c.tell.ensures.entries),
  c.tell-2.ensures.informed.seen ∙ sym c.tell-2.ensures.entries,
)

pub invariant_of-self : goal.invariant_of-self
invariant_of-self g c = subst (λ (j : Journal). IsCoreOf g.S.SigScheme.verifies g.B.Room.start j c.self.inside.core) (sym (c.tell-2.ensures.entries ∙ c.tell.ensures.entries)) c.self.invariant
