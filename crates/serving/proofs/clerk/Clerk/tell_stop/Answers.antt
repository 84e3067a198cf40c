use Rattle.std.proofs.Common.{refl}
use Rattle.conversing.specs.declared.outcome.Outcome.TheVariants.{Stopping}
use Rattle.serving.proofs.Telling.{replied}
use Rattle.serving.proofs.clerk.Clerk.tell_stop.Goals as goal

pub returns-clause-told : goal.returns-clause-told
returns-clause-told g c = replied Stopping refl tt c.tell.ensures
