use Rattle.std.proofs.Common.{◌≡◌, ℕ, List, [], ◌∷◌, ◌++◌, subst, ap, ◌∙◌}
use Rattle.std.proofs.lemmas.List.{take_all}
use Rattle.model.specs.Genesis.{Genesis}
use Rattle.model.specs.Ledger.{network_of}
use Rattle.model.proofs.Results.{if_err}
use Rattle.chain_core.specs.Immutable.{texts_of}
use Rattle.chain_core.specs.Held.{opening_held}
use Rattle.chain_core.specs.Reopening.{IsChainOf, IsReopenFault, texts_in}
use Rattle.chain_core.proofs.OpenedOn.{texts_more, fault_of_all}
use Rattle.chain_core.proofs.ReadAgain.{again_of}
use Rattle.chain_core.proofs.node_core.Core.reopen.Goals as goal

pub loop-bytes-preserved : goal.loop-bytes-preserved
loop-bytes-preserved g c =
    let was = c.loop-bytes.invariant in
    let next = c.in_ok-reopening-2.ensures in
    let so_far = texts_of c.loop-bytes.reopening.chain in
    record {
      genesis = next.genesis ∙ was.genesis;
      texts = next.texts ∙ (ap (λ (t : List ℕ). so_far ++ t ∷ []) c.deref.ensures.value
          ∙ texts_more so_far c.args.blocks.now c.loop-bytes.bytes-index c.bytes-item.result was.texts c.loop-bytes-test.true c.bytes-item.is);
    }

pub returns-in_err-reopening-2-clause-fault : goal.returns-in_err-reopening-2-clause-fault
returns-in_err-reopening-2-clause-fault g c =
    let verifies = g.S.SigScheme.verifies in
    let was = c.loop-bytes.invariant in
    let fault = c.in_err-reopening-2.field-0.0 in
    let so_far = texts_of c.loop-bytes.reopening.chain in
    let here = subst (λ (t : List ℕ). IsReopenFault (network_of c.loop-bytes.reopening.genesis verifies) (so_far ++ t ∷ []) fault) c.deref.ensures.value c.in_err-reopening-2.ensures.fault in
    let told = subst (λ (x : Genesis). IsReopenFault (network_of x verifies) (so_far ++ c.bytes-item.result.items ∷ []) fault) was.genesis here in
    if_err c.from_residual-in_err-reopening-2.result fault (IsReopenFault (network_of c.args.genesis verifies) (texts_in c.args.blocks.now)) c.from_residual-in_err-reopening-2.ensures.1
    (fault_of_all (network_of c.args.genesis verifies) so_far c.args.blocks.now c.loop-bytes.bytes-index c.bytes-item.result fault was.texts c.loop-bytes-test.true c.bytes-item.is told)

pub returns-in_err-reopening-2-clause-again : goal.returns-in_err-reopening-2-clause-again
returns-in_err-reopening-2-clause-again g c =
    again_of c.args.genesis g.S.SigScheme.verifies (texts_in c.args.blocks.now) c.from_residual-in_err-reopening-2.result (returns-in_err-reopening-2-clause-fault g c)

pub returns-clause-opened : goal.returns-clause-opened
returns-clause-opened g c =
    let verifies = g.S.SigScheme.verifies in
    let was = c.loop-bytes.invariant in
    let chain = c.loop-bytes.reopening.chain in
    let all : texts_of chain ≡ texts_in c.args.blocks.now = was.texts ∙ ap texts_in (take_all c.loop-bytes.bytes-index c.args.blocks.now c.loop-bytes-test.false) in
    let valid = subst (λ (x : Genesis). IsChainOf (network_of x verifies) (texts_of chain) chain) was.genesis c.finish.ensures.chain in
    (chain, subst (λ (texts : List (List ℕ)). IsChainOf (network_of c.args.genesis verifies) texts chain) all valid, c.in_ok-finish.ensures.core ∙ ap (λ (x : Genesis). opening_held x chain) was.genesis)
