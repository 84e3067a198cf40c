use Rattle.draft.proofs.Bodies.{id_told}
use Rattle.draft.proofs.Faults.{no_fault, on_err}
use Rattle.draft.proofs.draft.Draft.id.Goals as goal

pub returns-in_err-tx-clause-err : goal.returns-in_err-tx-clause-err
returns-in_err-tx-clause-err g c = on_err c.from_residual.result (λ d s. no_fault d s.sound)

pub returns-clause-id : goal.returns-clause-id
returns-clause-id g c = λ d s. id_told c.one_body_of_draft.ensures d c.in_ok-tx.tx (c.in_ok-tx.ensures.tx d s) c.id.ensures.spelled c.id.result.bytes c.id.ensures.is
