use Rattle.std.proofs.Common.{ℕ, List, subst}
use Rattle.std.proofs.lemmas.Result.{IfOk-weaker}
use Rattle.model.specs.Transaction.{Transaction, SpellsTransaction}
use Rattle.model.specs.Rules.{Params}
use Rattle.model.proofs.Results.{on_err}
use Rattle.utxo_rules.specs.View.{params_of}
use Rattle.mempool.specs.Calls.{IsSubmissionOf, IsNew, IsWantFor}
use Rattle.mempool.specs.View.{reply_of}
use Rattle.mempool.proofs.Submissions.{new_wants}
use Rattle.mempool.proofs.mempool.Mempool.submit_checked.Goals as goal

pub returns-in-Some-clause-ok : goal.returns-in-Some-clause-ok
returns-in-Some-clause-ok g c =
    subst (λ (t : Transaction). IsSubmissionOf g.S.SigScheme.verifies (params_of c.args.params.now) c.args.slot c.args.self.now t (reply_of c.in-Some.reply) c.args.self.now) c.tx-2.ensures c.in-Some.ensures

pub returns-clause-ok : goal.returns-clause-ok
returns-clause-ok g c =
    let v = g.S.SigScheme.verifies in
    let params = params_of c.args.params.now in
    let new = subst (IsNew v params c.args.slot c.args.self.now) c.tx-2.ensures c.in_default.ensures in
    IfOk-weaker c.late_answer.result (λ reply. (params : Params) (slot : ℕ) → IsNew v params slot c.args.self.now c.args.tx → IsSubmissionOf v params slot c.args.self.now c.args.tx (reply_of reply) c.late_answer.new.self)
    (λ reply. IsSubmissionOf v params c.args.slot c.args.self.now c.args.tx (reply_of reply) c.late_answer.new.self) (λ reply p. p params c.args.slot new) c.late_answer.ensures.ok

pub returns-clause-memory : goal.returns-clause-memory
returns-clause-memory g c =
    let v = g.S.SigScheme.verifies in
    let params = params_of c.args.params.now in
    let new = subst (IsNew v params c.args.slot c.args.self.now) c.tx-2.ensures c.in_default.ensures in
    on_err c.late_answer.result ((bytes : List ℕ) → SpellsTransaction c.args.tx bytes → IsWantFor v params c.args.slot c.args.self.now bytes) (new_wants v params c.args.slot c.args.self.now c.args.tx new)
