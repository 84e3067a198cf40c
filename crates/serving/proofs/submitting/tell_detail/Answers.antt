use Rattle.std.proofs.Common.{refl}
use Rattle.conversing.specs.declared.found.Found.TheVariants.{Acceptable}
use Rattle.conversing.specs.declared.outcome.Outcome.TheVariants.{Answered}
use Rattle.serving.proofs.Telling.{replied}
use Rattle.serving.proofs.submitting.tell_detail.Goals as goal

pub returns-in-Some : goal.returns-in-Some
returns-in-Some c = rw c.in-Some.is c.tell_reason.ensures

pub returns-in-None : goal.returns-in-None
returns-in-None c = replied (Answered Acceptable) (rw c.in-None.is refl) tt c.tell.ensures
