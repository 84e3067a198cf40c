use Rattle.std.proofs.Common.{subst}
use Rattle.model.specs.History.{State}
use Rattle.model.specs.Asked.{AreUnconnected}
use Rattle.chain_core.specs.Held.{Held, Stands, network_held}
use Rattle.chain_core.specs.Inside.{held}
use Rattle.chain_core.proofs.Arrivals.{state_of}
use Rattle.chain_core.proofs.node_core.Core.unconnected.Goals as goal

pub returns : goal.returns
returns g c =
    let v = g.S.SigScheme.verifies in
    let a = c.self.inside in
    subst (λ (h : Held). (s : State) → Stands h s → AreUnconnected (network_held h v) s c.unconnected_in.result) c.self.view_is
    (λ s stands. c.unconnected_in.ensures (network_held (held a) v) s c.self.invariant.whole (state_of (network_held (held a) v) a.chain_db a.followers s stands))
