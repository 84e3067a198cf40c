use Rattle.std.proofs.Common.{◌↔◌, subst}
use Rattle.std.specs.Prelude.{IsTrue}
use Rattle.block.specs.View.{tip_of}
use Rattle.blockstore.specs.Stored.{Store}
use Rattle.blockstore.specs.Ways.{HasWay}
use Rattle.blockstore.proofs.Rising.{step_is_way}
use Rattle.blockstore.proofs.store.BlockStore.connects.Goals as goal

pub returns : goal.returns
returns g c b is =
    let both = step_is_way (tip_of c.self.inside.root) c.self.inside.blocks.blocks c.self.inside.blocks.notes b c.self.invariant.notes in
    subst (λ (s : Store). IsTrue c.connects.result ↔ HasWay s.root s.blocks b) c.self.view_is
    ((λ holds. both.0 ((c.connects.ensures b is).0 holds)), (λ way. (c.connects.ensures b is).1 (both.1 way)))
