use Rattle.std.proofs.Common.{List, [], ◌∷◌, ◌++◌, subst}
use Rattle.std.proofs.lemmas.Result.{IfOk-weaker}
use Rattle.model.specs.Block.{Block}
use Rattle.model.specs.Genesis.{Genesis}
use Rattle.model.specs.Ledger.{network_of}
use Rattle.model.specs.Applying.{LedgerState, IsFirstFault, IsApplied, IsStateOf}
use Rattle.model.proofs.AppliedBlocks.{state_push}
use Rattle.ledger.specs.View.{fault_of}
use Rattle.ledger.specs.Judgement.{Fits}
use Rattle.ledger.specs.BlockDiffs.{BlockDiff}
use Rattle.ledger.proofs.applying.apply_block_diff.Goals as goal

pub returns-in-Some-clause-refused : goal.returns-in-Some-clause-refused
returns-in-Some-clause-refused g c =
    subst (λ (s : LedgerState). IsFirstFault g.S.SigScheme.verifies s c.args.block.now (fault_of c.in-Some.fault)) c.state.view_is
    (c.in-Some.ensures (record { utxo = c.state.inside.utxo; fees = c.state.inside.fees }))

pub with_block-requires : goal.with_block-requires
with_block-requires g c = subst (λ (s : LedgerState). Fits s c.args.block.now) c.state.view_is (c.in-None.ensures (record { utxo = c.state.inside.utxo; fees = c.state.inside.fees }))

pub returns-clause-chain : goal.returns-clause-chain
returns-clause-chain g c =
    let verifies = g.S.SigScheme.verifies in
    let b = c.args.block.now in
    IfOk-weaker c.with_block.result (λ made. IsApplied verifies c.args.state b made.0)
    (λ (made : LedgerState × BlockDiff). (genesis : Genesis) (chain : List Block) → IsStateOf (network_of genesis verifies) chain c.args.state → IsStateOf (network_of genesis verifies) (chain ++ b ∷ []) made.0)
    (λ made applied. λ genesis chain is. state_push (network_of genesis verifies) chain c.args.state b made.0 is applied) c.with_block.ensures.applied
