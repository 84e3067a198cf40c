use Rattle.std.proofs.Common.{◌≡◌, ℕ, ◌+◌, List, [], ◌∷◌, ◌++◌, length, sym, ap, ◌∙◌, subst, arith}
use Rattle.model.specs.Block.{Block}
use Rattle.model.specs.Ledger.{network_of, network_on}
use Rattle.model.specs.Applying.{IsStateOf}
use Rattle.model.proofs.AppliedBlocks.{state_push}
use Rattle.model.proofs.Candidates.{valid_of_state}
use Rattle.model.proofs.Results.{if_err}
use Rattle.chain_core.specs.Immutable.{texts_of}
use Rattle.chain_core.specs.ChainSoFar.{ChainSoFar}
use Rattle.chain_core.specs.Reopening.{IsChainOf, IsReopenFault, IsNotNext}
use Rattle.chain_core.proofs.OpenedOn.{reads_more, texts_push, next_invalid}
use Rattle.chain_core.proofs.ReadAgain.{again_of}
use Rattle.chain_core.proofs.reopening.Reopening.push.Goals as goal

pub returns-in_err-after-clause-fault : goal.returns-in_err-after-clause-fault
returns-in_err-after-clause-fault g c =
    let verifies = g.S.SigScheme.verifies in
    let was = c.self.invariant in
    let fault = c.in_err-after.field-0.0 in
    let count : c.len.result ≡ length c.self.inside.chain.items = omega arith in
    let unfit = subst (λ (n : ℕ). IsNotNext verifies c.self.inside.state (n + 1) c.args.bytes.now fault) count c.in_err-after.ensures.fault in
    let told = next_invalid (network_of c.self.inside.genesis verifies) c.self.inside.chain.items c.self.inside.state c.args.bytes.now fault was.read (was.state []) unfit in
    if_err c.from_residual.result fault (IsReopenFault (network_of c.args.self.genesis verifies) (texts_of c.args.self.chain ++ c.args.bytes.now ∷ [])) c.from_residual.ensures.1
    (subst (λ (h : ChainSoFar). IsReopenFault (network_of h.genesis verifies) (texts_of h.chain ++ c.args.bytes.now ∷ []) fault) c.self.view_is told)

pub returns-in_err-after-clause-again : goal.returns-in_err-after-clause-again
returns-in_err-after-clause-again g c =
    again_of c.args.self.genesis g.S.SigScheme.verifies (texts_of c.args.self.chain ++ c.args.bytes.now ∷ []) c.from_residual.result (returns-in_err-after-clause-fault g c)

pub invariant_of-result : goal.invariant_of-result
invariant_of-result g c =
    let verifies = g.S.SigScheme.verifies in
    let was = c.self.invariant in
    let inside = c.self.inside in
    let made = c.in_ok-after.ensures in
    record {
      read = reads_more inside.chain.items c.in_ok-after.block c.args.bytes.now c.push.new.self.items was.read made.read c.in-Ok.ensures.items;
      state = λ opened. subst (λ (bs : List Block). IsStateOf (network_on inside.genesis verifies opened) bs c.in_ok-after.after) (sym c.in-Ok.ensures.items)
          (state_push (network_on inside.genesis verifies opened) inside.chain.items inside.state c.in_ok-after.block c.in_ok-after.after (was.state opened) made.applied);
    }

pub returns-clause-genesis : goal.returns-clause-genesis
returns-clause-genesis g c = ap (λ h. h.genesis) c.self.view_is

pub returns-clause-block : goal.returns-clause-block
returns-clause-block g c =
    (c.in_ok-after.block, c.in_ok-after.ensures.read, c.in-Ok.ensures.items ∙ ap (λ h. h.chain ++ c.in_ok-after.block ∷ []) c.self.view_is)

pub returns-clause-texts : goal.returns-clause-texts
returns-clause-texts g c =
    texts_push c.args.self.chain c.in_ok-after.block c.args.bytes.now c.push.new.self.items c.in_ok-after.ensures.read
    (c.in-Ok.ensures.items ∙ ap (λ h. h.chain ++ c.in_ok-after.block ∷ []) c.self.view_is)

pub returns-clause-chain : goal.returns-clause-chain
returns-clause-chain g c =
    let verifies = g.S.SigScheme.verifies in
    let holds = invariant_of-result g c in
    let network = network_of c.self.inside.genesis verifies in
    let chain = c.push.new.self.items in
    subst (λ (h : ChainSoFar). IsChainOf (network_of h.genesis verifies) (texts_of chain) chain) c.self.view_is
    (record { read = holds.read; valid = valid_of_state network chain c.in_ok-after.after (holds.state []) })
