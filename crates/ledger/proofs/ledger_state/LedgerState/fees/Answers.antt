use Rattle.std.proofs.Common.{◌+◌, ◌∙◌, ap}
use Rattle.model.specs.Utxo.{coin_of, outputs_of}
use Rattle.model.specs.Applying.{LedgerState}
use Rattle.model.proofs.LedgerSteps.{supply_kept}
use Rattle.ledger.proofs.ledger_state.LedgerState.fees.Goals as goal

pub returns-clause-supply : goal.returns-clause-supply
returns-clause-supply c = λ network chain shapes is.
    let held : LedgerState = c.args.self.now in
    ap (λ (s : LedgerState). coin_of (outputs_of held.ledger.utxo) + s.ledger.fees) c.self.view_is ∙ supply_kept network chain held.ledger shapes is.ledger
