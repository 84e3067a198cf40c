use Rattle.std.proofs.Common.{◌≡◌, None, subst, ◌∙◌}
use Rattle.model.specs.Rules.{Params}
use Rattle.model.specs.Ledger.{reason_in}
use Rattle.ledger.proofs.Bodies.{one_applied}
use Rattle.ledger.proofs.Backwards.{one_more}
use Rattle.ledger.proofs.ledger_state.LedgerState.with_transactions.Goals as goal

pub loop-index-preserved : goal.loop-index-preserved
loop-index-preserved g c =
    let verifies = g.S.SigScheme.verifies in
    let was = c.loop-index.invariant in
    let now = c.loop-index.after in
    let t = c.index-transactions-index.result in
    let call = c.in-Ok.ensures in
    let none = subst (λ (p : Params). reason_in verifies p c.args.slot now.ledger t ≡ None) was.ends.params call.accepted in
    record {
      part = one_applied verifies c.args.self.params c.args.slot c.args.self.ledger now.ledger c.in-Ok.next.ledger c.args.transactions.now c.loop-index.index t c.loop-index-test.true c.index-transactions-index.is none call.applied was.part;
      ends = record { params = call.ends.params ∙ was.ends.params; tip = call.ends.tip ∙ was.ends.tip };
      back = one_more c.loop-index.diffs.items c.push.new.self.items c.in-Ok.diff c.args.self.ledger.utxo now.ledger.utxo c.in-Ok.next.ledger.utxo c.in_ok-push-in-Ok.ensures.items call.back was.back;
    }
