use Rattle.std.proofs.Common.{◌+◌, ℕ, sym, ap, subst, ◌∙◌}
use Rattle.std.specs.List.{AllByRecursion}
use Rattle.std.specs.Result.{result_ok}
use Rattle.model.specs.Transaction.{IsTransaction}
use Rattle.model.specs.Utxo.{outputs_of, coin_of}
use Rattle.model.specs.Applying.{LedgerState}
use Rattle.model.proofs.LedgerSteps.{kept_by_transactions}
use Rattle.ledger.proofs.applying.with_block.Goals as goal

pub returns-clause-conserves : goal.returns-clause-conserves
returns-clause-conserves g c =
    let ada : LedgerState → ℕ = λ s. coin_of (outputs_of s.ledger.utxo) + s.ledger.fees in
    let shapes = subst (AllByRecursion IsTransaction) (sym c.transactions.ensures.transactions) c.transactions.ensures.shapes in
    ap ada c.after.view_is
    ∙ kept_by_transactions g.S.SigScheme.verifies c.args.state.params c.slot.result c.args.state.ledger c.transactions.result.now c.in_ok-after.after.ledger shapes (ap result_ok c.in_ok-after.ensures.judged)
