use Rattle.std.proofs.Common.{◌≡◌, ap, subst, ◌∙◌}
use Rattle.model.specs.Chain.{Tip, genesis_tip, tip_after}
use Rattle.chain_core.specs.Held.{Held, network_held}
use Rattle.chain_core.specs.Inside.{held}
use Rattle.chain_core.proofs.node_core.Core.slot.Goals as goal

pub returns : goal.returns
returns g c =
    let is = c.state.ensures (network_held (held c.self.inside) g.S.SigScheme.verifies) c.self.invariant.whole in
    subst (λ (h : Held). c.slot.result ≡ (tip_after genesis_tip h.chain).slot) c.self.view_is (c.slot.ensures.slot ∙ ap (λ (t : Tip). t.slot) is.tip)
