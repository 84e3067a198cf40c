use Rattle.std.proofs.Common.{◌≡◌, List, ℕ, sym, ap, subst, ◌∙◌, arith}
use Rattle.model.specs.Block.{Block}
use Rattle.model.specs.Ledger.{network_of}
use Rattle.model.proofs.Results.{if_err}
use Rattle.chain_core.specs.Immutable.{texts_of}
use Rattle.chain_core.specs.Reopening.{IsChainOf, WereImmutable}
use Rattle.shared.specs.Starts.{Start}
use Rattle.flushing.specs.Beginning.{IsSharedOnFault, TellsNoBlock, reopening_fault, opening_fault}
use Rattle.flushing.proofs.Opened.{untouched_of, not_opened, not_shared, reopening_tells_none, opening_tells_none}
use Rattle.flushing.proofs.restart.Restart.shared.Goals as goal

pub returns-in_err-core-clause-fault : goal.returns-in_err-core-clause-fault
returns-in_err-core-clause-fault g c =
    if_err c.from_residual.result (reopening_fault c.in_err-core.field-0.0) (IsSharedOnFault (network_of c.args.self.genesis g.S.SigScheme.verifies) c.args.self.blocks c.args.callers) c.from_residual.ensures.1
    (not_opened (network_of c.args.self.genesis g.S.SigScheme.verifies) c.args.self.blocks c.args.callers c.in_err-core.field-0.0 (omega arith, omega arith) c.in_err-core.ensures.fault)

pub on-requires : goal.on-requires
on-requires g c = untouched_of g.S.SigScheme.verifies c.args.self.genesis c.in_ok-core.core c.args.self.blocks c.in_ok-core.ensures.opened c.in_ok-core.ensures.chain

pub returns-in_err-opened-clause-fault : goal.returns-in_err-opened-clause-fault
returns-in_err-opened-clause-fault g c =
    if_err c.from_residual-in_err-opened.result (opening_fault c.in_err-opened.field-0.0) (IsSharedOnFault (network_of c.args.self.genesis g.S.SigScheme.verifies) c.args.self.blocks c.args.callers) c.from_residual-in_err-opened.ensures.1
    (not_shared (network_of c.args.self.genesis g.S.SigScheme.verifies) c.args.self.blocks c.args.callers c.in_err-opened.field-0.0 c.in_err-opened.ensures.fault)

pub returns-clause-genesis : goal.returns-clause-genesis
returns-clause-genesis g c = ap (λ (s : Start). s.genesis) c.in_ok-opened.ensures.start ∙ ap (λ h. h.genesis) c.in_ok-core.ensures.opened

pub returns-clause-chain : goal.returns-clause-chain
returns-clause-chain g c =
    subst (λ (bs : List Block). IsChainOf (network_of c.args.self.genesis g.S.SigScheme.verifies) c.args.self.blocks bs) (sym (ap (λ (s : Start). s.opened) c.in_ok-opened.ensures.start)) c.in_ok-core.ensures.chain

pub returns-clause-blocks : goal.returns-clause-blocks
returns-clause-blocks g c = ap (λ (s : Start). texts_of s.opened) c.in_ok-opened.ensures.start ∙ c.in_ok-core.ensures.blocks

pub returns-in_err-core-clause-again : goal.returns-in_err-core-clause-again
returns-in_err-core-clause-again g c =
    if_err c.from_residual.result (reopening_fault c.in_err-core.field-0.0) (λ f. WereImmutable (network_of c.args.self.genesis g.S.SigScheme.verifies) c.args.self.blocks → TellsNoBlock f) c.from_residual.ensures.1
    (λ were. reopening_tells_none c.in_err-core.field-0.0 (c.in_err-core.ensures.again were))

pub returns-in_err-opened-clause-again : goal.returns-in_err-opened-clause-again
returns-in_err-opened-clause-again g c =
    if_err c.from_residual-in_err-opened.result (opening_fault c.in_err-opened.field-0.0) (λ f. WereImmutable (network_of c.args.self.genesis g.S.SigScheme.verifies) c.args.self.blocks → TellsNoBlock f) c.from_residual-in_err-opened.ensures.1
    (λ were. opening_tells_none c.in_err-opened.field-0.0)
