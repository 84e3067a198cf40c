use Rattle.std.proofs.Common.{◌∙◌, ap}
use Rattle.model.specs.Chain.{genesis_tip, tip_after}
use Rattle.chain.specs.Chained.{Chained, chain_of}
use Rattle.chain.specs.Noted.{noted}
use Rattle.chain.proofs.Places.{tip_behind}
use Rattle.chain.proofs.chain.Chain.tip.Goals as goal

pub returns : goal.returns
returns g c =
    c.end_of.ensures ∙ ap (λ bs. tip_after genesis_tip bs) c.deref.ensures.value
    ∙ tip_behind (noted c.self.inside.gone.items) c.self.inside.resident.items c.self.invariant.last
    ∙ ap (λ (x : Chained). tip_after genesis_tip (chain_of x)) c.self.view_is
