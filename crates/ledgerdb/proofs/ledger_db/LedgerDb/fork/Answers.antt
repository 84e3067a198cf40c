use Rattle.std.proofs.Common.{List, subst, sym}
use Rattle.model.specs.Block.{Block}
use Rattle.model.specs.Genesis.{Genesis}
use Rattle.model.specs.Ledger.{network_on}
use Rattle.model.specs.Applying.{IsStateOf}
use Rattle.model.proofs.StatesAlong.{states_length}
use Rattle.model.proofs.Results.{if_err}
use Rattle.ledgerdb.specs.Values.{state_back}
use Rattle.ledgerdb.specs.Chains.{without_last, IsDatabaseOf}
use Rattle.ledgerdb.specs.Faults.{IsFaultOnChain}
use Rattle.ledgerdb.specs.Inside.{states_along}
use Rattle.ledgerdb.specs.declared.fork_fault.ForkFault.{ForkFault}
use Rattle.ledgerdb.proofs.Beside.{of_applied}
use Rattle.ledgerdb.proofs.Databases.{back_state}
use Rattle.ledgerdb.proofs.Forks.{fault_on_chain}
use Rattle.ledgerdb.proofs.ledger_db.LedgerDb.fork.Goals as goal

pub returns-in-Err-clause-chain_refused : goal.returns-in-Err-clause-chain_refused
returns-in-Err-clause-chain_refused g c = λ genesis opened chain is.
    let network = network_on genesis g.S.SigScheme.verifies opened in
    let back = c.args.back in
    let now = c.args.self.now in
    fault_on_chain network (without_last back chain) (state_back now back) c.args.blocks.now c.without_memory.result (back_state network chain now back is c.requires) c.without_memory.ensures

pub returns-in_err-state-clause-chain_refused : goal.returns-in_err-state-clause-chain_refused
returns-in_err-state-clause-chain_refused g c =
    let verifies = g.S.SigScheme.verifies in
    let back = c.args.back in
    let now = c.args.self.now in
    let fault = c.in_err-state.field-0.0 in
    if_err c.from_residual.result fault
    (λ (e : ForkFault). (genesis : Genesis) (opened chain : List Block) → IsDatabaseOf (network_on genesis verifies opened) chain now → IsFaultOnChain (network_on genesis verifies opened) (without_last back chain) c.args.blocks.now e)
    c.from_residual.ensures.1
    (λ genesis opened chain is.
    let network = network_on genesis verifies opened in
    fault_on_chain network (without_last back chain) c.in-Ok.root c.args.blocks.now fault (c.in-Ok.ensures.chain network chain is) c.in_err-state.ensures.refused)

pub returns-clause-count : goal.returns-clause-count
returns-clause-count g c = states_length g.S.SigScheme.verifies c.in-Ok.root c.args.blocks.now (states_along c.in_ok-state.diffs c.in_ok-state.state) c.in_ok-state.ensures.applied

pub returns-clause-chain : goal.returns-clause-chain
returns-clause-chain g c = λ genesis opened chain is.
    let network = network_on genesis g.S.SigScheme.verifies opened in
    let back = c.args.back in
    let from = c.in-Ok.ensures.chain network chain is in
    record {
      root = subst (IsStateOf network (without_last back chain)) (sym c.in_ok-state.ensures.back) from;
      states = of_applied network (without_last back chain) c.in-Ok.root c.args.blocks.now (states_along c.in_ok-state.diffs c.in_ok-state.state) from c.in_ok-state.ensures.applied;
    }
