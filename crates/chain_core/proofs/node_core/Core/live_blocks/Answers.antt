use Rattle.std.proofs.Common.{◌≡◌, length, subst}
use Rattle.model.specs.History.{State, live_of}
use Rattle.chain_core.specs.Held.{Held, Stands, network_held}
use Rattle.chain_core.specs.Inside.{held}
use Rattle.chain_core.proofs.Arrivals.{state_of}
use Rattle.chain_core.proofs.node_core.Core.live_blocks.Goals as goal

pub returns : goal.returns
returns g c =
    let v = g.S.SigScheme.verifies in
    let a = c.self.inside in
    subst (λ (h : Held). (s : State) → Stands h s → c.live_count.result ≡ length (live_of (network_held h v) s)) c.self.view_is
    (λ s stands. c.live_count.ensures (network_held (held a) v) s (state_of (network_held (held a) v) a.chain_db a.followers s stands))
