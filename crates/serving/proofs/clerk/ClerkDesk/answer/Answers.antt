use Rattle.std.proofs.Common.{refl}
use Rattle.std.proofs.lemmas.Result.{IfOk-weaker}
use Rattle.conversing.specs.RequestView.{request_view}
use Rattle.serving.specs.Serving.{Carried, Faulty}
use Rattle.serving.proofs.clerk.ClerkDesk.answer.Goals as goal

pub returns-in-Ok-clause-ok : goal.returns-in-Ok-clause-ok
returns-in-Ok-clause-ok g c = IfOk-weaker c.serve.result _ _ (λ reply carried. Carried (request_view c.in-Ok.request) c.in-Ok.ensures.ok carried) c.serve.ensures.ok

pub returns-in-Err-clause-ok : goal.returns-in-Err-clause-ok
returns-in-Err-clause-ok g c = IfOk-weaker c.fault_line.result _ _ (λ reply is. Faulty c.in-Err.fault c.in-Err.ensures.fault refl is) c.fault_line.ensures
