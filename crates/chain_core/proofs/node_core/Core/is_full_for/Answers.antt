use Rattle.std.proofs.Common.{◌↔◌, subst}
use Rattle.std.specs.Prelude.{IsTrue}
use Rattle.model.specs.History.{State, IsFullFor}
use Rattle.chain_core.specs.Held.{Held, Stands, network_held}
use Rattle.chain_core.specs.Inside.{held}
use Rattle.chain_core.proofs.Arrivals.{state_of}
use Rattle.chain_core.proofs.node_core.Core.is_full_for.Goals as goal

pub returns : goal.returns
returns g c =
    let v = g.S.SigScheme.verifies in
    let a = c.self.inside in
    subst (λ (h : Held). (s : State) → Stands h s → IsTrue c.is_full_for.result ↔ IsFullFor (network_held h v) s c.args.size) c.self.view_is
    (λ s stands. c.is_full_for.ensures (network_held (held a) v) s c.self.invariant.whole (state_of (network_held (held a) v) a.chain_db a.followers s stands))
