use Rattle.std.proofs.Common.{ℕ, ◌++◌, sym, subst}
use Rattle.model.specs.Ledger.{network_on}
use Rattle.model.specs.Applying.{IsStateOf}
use Rattle.ledgerdb.specs.Chains.{without_last, IsPreparedOf}
use Rattle.chainsel.proofs.beside.state_on.Goals as goal

pub returns-in_ok-try_clone-in-Ok : goal.returns-in_ok-try_clone-in-Ok
returns-in_ok-try_clone-in-Ok g c = λ genesis opened chain database.
    let network = network_on genesis g.S.SigScheme.verifies opened in
    let back = c.args.back in
    let blocks = c.args.blocks.now in
    let prepared : IsPreparedOf network (without_last back chain) blocks c.in-Ok.prepared = c.in-Ok.ensures.chain genesis opened chain database in
    let is : IsStateOf network (without_last back chain ++ blocks) c.state_after.result.now =
    subst (λ (n : ℕ). IsStateOf network (without_last n chain ++ blocks) c.state_after.result.now) c.in-Ok.ensures.back
    (c.state_after.ensures.chain network chain blocks database (subst (λ (n : ℕ). IsPreparedOf network (without_last n chain) blocks c.in-Ok.prepared) (sym c.in-Ok.ensures.back) prepared)) in
    subst (IsStateOf network (without_last back chain ++ blocks)) (sym c.in_ok-try_clone-in-Ok.ensures) is
