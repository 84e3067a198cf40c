use Rattle.std.proofs.Common.{subst, refl}
use Rattle.blockstore.specs.Stored.{Store}
use Rattle.blockstore.specs.HeldStore.{store_of}
use Rattle.blockstore.specs.OffWays.{AreOffWays}
use Rattle.blockstore.proofs.OffWays.{are_off_ways}
use Rattle.blockstore.proofs.store.BlockStore.unconnected.Goals as goal

pub returns : goal.returns
returns g c =
    subst (λ (s : Store). AreOffWays s c.unnoted.result) c.self.view_is
    (are_off_ways (store_of c.self.inside) c.self.inside.blocks c.unnoted.result refl c.self.invariant.notes c.unnoted.ensures)
