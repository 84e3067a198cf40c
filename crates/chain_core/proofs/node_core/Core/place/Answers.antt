use Rattle.std.proofs.Common.{subst}
use Rattle.model.specs.History.{State}
use Rattle.chain_core.specs.Held.{Held, Stands, network_held}
use Rattle.chain_core.specs.Inside.{held}
use Rattle.model.specs.Asked.{IsPlaceOf}
use Rattle.chain_core.specs.Asking.{place_of}
use Rattle.chain_core.proofs.Arrivals.{state_of}
use Rattle.chain_core.proofs.PastHashes.{whole_indexed}
use Rattle.chain_core.proofs.node_core.Core.place.Goals as goal

pub returns : goal.returns
returns g c =
    let v = g.S.SigScheme.verifies in
    let a = c.self.inside in
    subst (λ (h : Held). (s : State) → Stands h s → IsPlaceOf (network_held h v) s c.args.hash.bytes (place_of c.place_in.result)) c.self.view_is
    (λ s stands. c.place_in.ensures (network_held (held a) v) s c.self.invariant.whole (state_of (network_held (held a) v) a.chain_db a.followers s stands))

pub place_in-requires : goal.place_in-requires
place_in-requires g c = whole_indexed (network_held (held c.self.inside) g.S.SigScheme.verifies) c.self.inside.chain_db c.self.invariant.whole
