use Rattle.std.proofs.Common.{◌≡◌, sym, ap, subst, ◌∙◌}
use Rattle.model.specs.Applying.{IsStateOf}
use Rattle.ledgerdb.specs.Values.{Database, state_back}
use Rattle.ledgerdb.proofs.Along.{newest_is}
use Rattle.ledgerdb.proofs.Databases.{newest_state}
use Rattle.ledgerdb.proofs.ledger_db.LedgerDb.state.Goals as goal

pub returns-clause-state : goal.returns-clause-state
returns-clause-state c = newest_is c.self.inside.diffs c.self.inside.state ∙ ap (λ (db : Database). state_back db 0) c.self.view_is

pub returns-clause-chain : goal.returns-clause-chain
returns-clause-chain c = λ network chain is.
    let newest : c.self.inside.state ≡ state_back c.args.self.now 0 = newest_is c.self.inside.diffs c.self.inside.state ∙ ap (λ (db : Database). state_back db 0) c.self.view_is in
    subst (IsStateOf network chain) (sym newest) (newest_state network chain c.args.self.now is)
