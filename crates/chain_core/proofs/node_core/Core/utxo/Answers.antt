use Rattle.std.proofs.Common.{◌≡◌, Some, subst}
use Rattle.model.specs.Ledger.{ledger_of}
use Rattle.chain_core.specs.Held.{Held, network_held}
use Rattle.chain_core.specs.Inside.{held}
use Rattle.chain_core.proofs.node_core.Core.utxo.Goals as goal

pub returns : goal.returns
returns g c =
    let verifies = g.S.SigScheme.verifies in
    let state = c.state.result.now in
    let is = c.state.ensures (network_held (held c.self.inside) verifies) c.self.invariant.whole in (
      state.ledger,
      subst (λ (h : Held). ledger_of (network_held h verifies) h.chain ≡ Some state.ledger) c.self.view_is is.ledger,
      c.utxo.ensures,
    )
