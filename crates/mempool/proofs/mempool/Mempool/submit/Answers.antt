use Rattle.std.proofs.Common.{ℕ, sym, subst}
use Rattle.std.proofs.lemmas.Result.{IfOk-weaker}
use Rattle.model.specs.Transaction.{Transaction, SpellsTransaction}
use Rattle.model.specs.Rules.{Params}
use Rattle.model.proofs.Results.{on_err}
use Rattle.utxo_rules.specs.View.{params_of}
use Rattle.mempool.specs.Calls.{IsSubmission, IsSubmissionOf, IsNew, IsWantAtSubmission}
use Rattle.mempool.specs.View.{reply_of}
use Rattle.mempool.proofs.Submissions.{begins_like, new_spends}
use Rattle.mempool.proofs.mempool.Mempool.submit.Goals as goal

pub returns-in-Some-clause-ok : goal.returns-in-Some-clause-ok
returns-in-Some-clause-ok g c = c.in-Some.ensures c.args.bytes.now c.in-Ok.ensures.found

pub returns-clause-ok : goal.returns-clause-ok
returns-clause-ok g c =
    let v = g.S.SigScheme.verifies in
    let params = params_of c.args.params.now in
    let checked = c.in_ok-plain.field-0 in
    let new = subst (IsNew v params c.args.slot c.args.self.now) (sym c.in_ok-plain.ensures) c.in_default.ensures in
    let spelled = subst (λ (t : Transaction). SpellsTransaction t c.args.bytes.now) (sym c.in_ok-plain.ensures) c.in-Ok.ensures.found in
    IfOk-weaker c.late_answer.result (λ reply. (params : Params) (slot : ℕ) → IsNew v params slot c.args.self.now checked → IsSubmissionOf v params slot c.args.self.now checked (reply_of reply) c.late_answer.new.self)
    (λ reply. IsSubmission v params c.args.slot c.args.self.now c.args.bytes.now (reply_of reply) c.late_answer.new.self) (λ reply p. p params c.args.slot new c.args.bytes.now spelled) c.late_answer.ensures.ok

pub returns-in_err-plain-clause-memory : goal.returns-in_err-plain-clause-memory
returns-in_err-plain-clause-memory g c =
    on_err c.from_residual.result (IsWantAtSubmission c.args.bytes.now) (begins_like c.in-Ok.tx c.args.bytes.now c.in-Ok.ensures.found, new_spends g.S.SigScheme.verifies (params_of c.args.params.now) c.args.slot c.args.self.now c.in-Ok.tx c.in_default.ensures c.args.bytes.now c.in-Ok.ensures.found)

pub returns-clause-memory : goal.returns-clause-memory
returns-clause-memory g c =
    on_err c.late_answer.result (IsWantAtSubmission c.args.bytes.now) (begins_like c.in-Ok.tx c.args.bytes.now c.in-Ok.ensures.found, new_spends g.S.SigScheme.verifies (params_of c.args.params.now) c.args.slot c.args.self.now c.in-Ok.tx c.in_default.ensures c.args.bytes.now c.in-Ok.ensures.found)
