use Rattle.std.proofs.Common.{subst}
use Rattle.model.specs.History.{State}
use Rattle.chain_core.specs.Held.{Held, Stands, network_held}
use Rattle.chain_core.specs.Inside.{held}
use Rattle.model.specs.Asked.{IsTxPlaceOf}
use Rattle.chain_core.specs.Asking.{tx_place_of}
use Rattle.chain_core.proofs.Arrivals.{state_of}
use Rattle.chain_core.proofs.node_core.Core.transaction.Goals as goal

pub returns : goal.returns
returns g c =
    let v = g.S.SigScheme.verifies in
    let a = c.self.inside in
    subst (λ (h : Held). (s : State) → Stands h s → IsTxPlaceOf (network_held h v) s c.args.id.bytes (tx_place_of c.tx_place_in.result)) c.self.view_is
    (λ s stands. c.tx_place_in.ensures (network_held (held a) v) s c.k.ensures.k c.self.invariant.whole (state_of (network_held (held a) v) a.chain_db a.followers s stands) stands.mempool)
