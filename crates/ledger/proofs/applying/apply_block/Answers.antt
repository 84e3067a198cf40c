use Rattle.std.proofs.Common.{sym, subst}
use Rattle.model.specs.Ledger.{network_of}
use Rattle.model.specs.Applying.{LedgerState, IsFirstFault, IsApplied}
use Rattle.model.proofs.AppliedBlocks.{state_push}
use Rattle.model.proofs.Results.{if_err}
use Rattle.ledger.specs.View.{fault_of}
use Rattle.ledger.specs.Judgement.{Fits, IsApplyFault}
use Rattle.ledger.specs.declared.block_fault.ApplyFault.TheVariants.{OutOfMemory}
use Rattle.ledger.proofs.Faults.{none_of_four}
use Rattle.ledger.proofs.applying.apply_block.Goals as goal

pub returns-in-Some-clause-refused : goal.returns-in-Some-clause-refused
returns-in-Some-clause-refused g c =
    subst (λ (s : LedgerState). IsFirstFault g.S.SigScheme.verifies s c.args.block.now (fault_of c.in-Some.fault)) c.state.view_is
    (c.in-Some.ensures (record { utxo = c.state.inside.utxo; fees = c.state.inside.fees }))

pub returns-in_err-try_clone-clause-refused : goal.returns-in_err-try_clone-clause-refused
returns-in_err-try_clone-clause-refused g c =
    let fits = subst (λ (s : LedgerState). Fits s c.args.block.now) c.state.view_is (c.in-None.ensures (record { utxo = c.state.inside.utxo; fees = c.state.inside.fees })) in
    if_err c.from_residual.result OutOfMemory (IsApplyFault g.S.SigScheme.verifies c.args.state.now c.args.block.now) c.from_residual.ensures.1 (none_of_four g.S.SigScheme.verifies c.args.state.now c.args.block.now fits)

pub with_block-requires : goal.with_block-requires
with_block-requires g c =
    let fits = subst (λ (s : LedgerState). Fits s c.args.block.now) c.state.view_is (c.in-None.ensures (record { utxo = c.state.inside.utxo; fees = c.state.inside.fees })) in
    subst (λ (s : LedgerState). Fits s c.args.block.now) (sym c.in_ok-try_clone.ensures) fits

pub returns-clause-chain : goal.returns-clause-chain
returns-clause-chain g c = λ genesis chain is.
    let applied = subst (λ (s : LedgerState). IsApplied g.S.SigScheme.verifies s c.args.block.now c.in_ok-after.after) c.in_ok-try_clone.ensures c.in_ok-after.ensures.applied in
    state_push (network_of genesis g.S.SigScheme.verifies) chain c.args.state.now c.args.block.now c.in_ok-after.after is applied
