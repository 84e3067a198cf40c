use Rattle.draft.proofs.Bodies.{body_told}
use Rattle.draft.proofs.Faults.{no_fault, on_err}
use Rattle.draft.proofs.Finishing.{ok_told}
use Rattle.draft.proofs.draft.Draft.body.Goals as goal

pub returns-in_err-tx-clause-err : goal.returns-in_err-tx-clause-err
returns-in_err-tx-clause-err g c = on_err c.from_residual.result (λ d s. no_fault d s.sound)

pub returns-clause-body : goal.returns-clause-body
returns-clause-body g c =
    ok_told _ _ _ c.body_text.result (λ text spelled is d s. body_told c.one_body_of_draft.ensures d c.in_ok-tx.tx (c.in_ok-tx.ensures.tx d s) spelled text.items is) c.body_text.ensures.spelled c.body_text.ensures.text

pub returns-clause-err : goal.returns-clause-err
returns-clause-err g c = on_err c.body_text.result (λ d s. no_fault d s.sound)
