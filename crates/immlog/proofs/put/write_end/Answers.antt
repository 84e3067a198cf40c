use Rattle.immlog.proofs.Moments.{keeps_call}
use Rattle.immlog.proofs.put.write_end.Goals as goal

pub returns-in_err-write_at-clause-fixed : goal.returns-in_err-write_at-clause-fixed
returns-in_err-write_at-clause-fixed g c = keeps_call _ _ _ _ _ _ c.write_at.ensures.time

pub returns-clause-fixed : goal.returns-clause-fixed
returns-clause-fixed g c = keeps_call _ _ _ _ _ _ c.write_at.ensures.time
