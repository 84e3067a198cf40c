use Rattle.std.proofs.Common.{arith, ap, ◌∙◌, subst}
use Rattle.model.specs.Mempool.{Refused, Added}
use Rattle.utxo_rules.specs.Check.{IsCheckFault}
use Rattle.utxo_rules.specs.View.{reason_of}
use Rattle.mempool.specs.Contents.{Waiting, Mempool}
use Rattle.mempool.specs.Calls.{with_tx, IsSubmission, IsNew}
use Rattle.mempool.proofs.Submissions.{against, added}
use Rattle.mempool.proofs.mempool.Mempool.late_answer.Goals as goal

pub returns-in-Err-Refused-clause-ok : goal.returns-in-Err-Refused-clause-ok
returns-in-Err-Refused-clause-ok g c = λ params slot new bytes spelled.
    let v = g.S.SigScheme.verifies in
    let inside : Mempool = record { capacity = c.self.inside.capacity; waiting = c.self.inside.waiting } in
    subst (λ (p : Mempool). IsNew v params slot p c.args.tx → IsSubmission v params slot p bytes (Refused (reason_of c.in-Err-Refused.reason)) p) c.self.view_is
    (λ is. against v params slot inside c.args.tx bytes spelled (reason_of c.in-Err-Refused.reason) is.unknown
    (subst (IsCheckFault v params inside.waiting.unspent slot c.args.tx) c.in-Err-Refused.field-0-is (c.in-Err-Refused.ensures.refused params slot is.early))) new

pub returns-clause-ok : goal.returns-clause-ok
returns-clause-ok g c = λ params slot new bytes spelled.
    let v = g.S.SigScheme.verifies in
    let inside : Mempool = record { capacity = c.self.inside.capacity; waiting = c.self.inside.waiting } in
    let after : Mempool = record { capacity = c.self.inside.capacity; waiting = c.push.new.self } in
    let full = c.if-len-self.false in
    let count = c.len.ensures in
    subst (λ (p : Mempool). IsNew v params slot p c.args.tx → IsSubmission v params slot p bytes Added after) c.self.view_is
    (λ is. added v params slot inside c.args.tx bytes spelled after is.unknown (c.in-Ok.ensures.accepted params slot is.early) (omega (arith, full, count))
    (ap (λ (w : Waiting). record { capacity = c.self.inside.capacity; waiting = w }) (c.in_ok-push.ensures.ok ∙ ap (with_tx c.self.inside.waiting) c.in_ok-new.ensures.ok))) new
