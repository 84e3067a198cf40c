use Rattle.std.proofs.Common.{◌≡◌, [], subst}
use Rattle.std.specs.Prelude.{IfOk}
use Rattle.model.specs.Ledger.{network_of}
use Rattle.model.proofs.Candidates.{valid_of_state}
use Rattle.chain_core.specs.Held.{opening_held}
use Rattle.chain_core.specs.Immutable.{texts_of}
use Rattle.chain_core.specs.ChainSoFar.{ChainSoFar}
use Rattle.chain_core.specs.Reopening.{IsChainOf}
use Rattle.chain_core.proofs.OpenedOn.{spelled_all}
use Rattle.chain_core.proofs.reopening.Reopening.finish.Goals as goal

pub on-requires-clause-spelled : goal.on-requires-clause-spelled
on-requires-clause-spelled g c = spelled_all c.self.inside.chain.items (texts_of c.self.inside.chain.items) c.self.invariant.read

pub returns-clause-core : goal.returns-clause-core
returns-clause-core g c = subst (λ (h : ChainSoFar). IfOk c.on.result (λ core. core ≡ opening_held h.genesis h.chain)) c.self.view_is c.on.ensures

pub returns-clause-chain : goal.returns-clause-chain
returns-clause-chain g c =
    let verifies = g.S.SigScheme.verifies in
    let was = c.self.invariant in
    let inside = c.self.inside in
    subst (λ (h : ChainSoFar). IsChainOf (network_of h.genesis verifies) (texts_of h.chain) h.chain) c.self.view_is
    (record { read = was.read; valid = valid_of_state (network_of inside.genesis verifies) inside.chain.items inside.state (was.state []) })
