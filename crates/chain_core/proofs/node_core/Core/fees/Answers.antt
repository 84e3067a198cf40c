use Rattle.std.proofs.Common.{◌≡◌, ◌+◌, ◌∙◌, Some, sym, ap, subst}
use Rattle.std.proofs.lemmas.Option.{same_Some}
use Rattle.model.specs.Genesis.{supply_of}
use Rattle.model.specs.Utxo.{coin_of, outputs_of}
use Rattle.model.specs.Ledger.{Ledger, ledger_of}
use Rattle.chain_core.specs.Held.{Held, network_held}
use Rattle.chain_core.specs.Inside.{held}
use Rattle.chain_core.proofs.Reached.{supply_reached}
use Rattle.chain_core.proofs.node_core.Core.fees.Goals as goal

pub returns-clause-fees : goal.returns-clause-fees
returns-clause-fees g c =
    let verifies = g.S.SigScheme.verifies in
    let state = c.state.result.now in
    let is = c.state.ensures (network_held (held c.self.inside) verifies) c.self.invariant.whole in (
      state.ledger,
      subst (λ (h : Held). ledger_of (network_held h verifies) h.chain ≡ Some state.ledger) c.self.view_is is.ledger,
      c.fees.ensures.fees,
    )

pub returns-clause-supply : goal.returns-clause-supply
returns-clause-supply g c =
    let verifies = g.S.SigScheme.verifies in
    let state = c.state.result.now in
    let is = c.state.ensures (network_held (held c.self.inside) verifies) c.self.invariant.whole in
    subst (λ (h : Held). (ledger : Ledger) → ledger_of (network_held h verifies) h.chain ≡ Some ledger → coin_of (outputs_of ledger.utxo) + c.fees.result ≡ supply_of h.genesis) c.self.view_is
    (λ ledger at.
    let same : state.ledger ≡ ledger = same_Some state.ledger ledger (sym is.ledger ∙ at) in
    ap (λ n. coin_of (outputs_of ledger.utxo) + n) (c.fees.ensures.fees ∙ ap (λ (l : Ledger). l.fees) same) ∙ supply_reached verifies (held c.self.inside) c.self.invariant.opens c.self.invariant.reached ledger at)
