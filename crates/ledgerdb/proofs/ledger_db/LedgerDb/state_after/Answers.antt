use Rattle.std.proofs.Common.{◌≡◌, sym, ap, subst, ◌∙◌}
use Rattle.model.specs.Applying.{last_state, IsStateOf}
use Rattle.ledgerdb.specs.Values.{Prepared}
use Rattle.ledgerdb.proofs.Along.{last_along}
use Rattle.ledgerdb.proofs.Beside.{beside_last}
use Rattle.ledgerdb.proofs.ledger_db.LedgerDb.state_after.Goals as goal

pub returns-clause-state : goal.returns-clause-state
returns-clause-state c = sym (last_along c.prepared.inside.diffs c.prepared.inside.state) ∙ ap (λ (p : Prepared). last_state p.root p.states) c.prepared.view_is

pub returns-clause-chain : goal.returns-clause-chain
returns-clause-chain c = λ network chain blocks is are.
    let p = c.args.prepared.now in
    let newest : last_state p.root p.states ≡ c.prepared.inside.state =
    sym (sym (last_along c.prepared.inside.diffs c.prepared.inside.state) ∙ ap (λ (p : Prepared). last_state p.root p.states) c.prepared.view_is) in
    subst (IsStateOf network _) newest (beside_last network _ p.root blocks p.states are.root are.states)
