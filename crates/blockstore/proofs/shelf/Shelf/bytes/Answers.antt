use Rattle.std.proofs.Common.{◌≤◌, ◌*◌, subst, sym, length}
use Rattle.model.specs.Limits.{block_size_limit}
use Rattle.blockstore.specs.Placed.{Held, blocks_in}
use Rattle.blockstore.proofs.Sizes.{bytes_bounded}
use Rattle.blockstore.proofs.shelf.Shelf.bytes.Goals as goal

pub returns-clause-bounded : goal.returns-clause-bounded
returns-clause-bounded g c =
    subst (λ (h : Held). c.self.inside.bytes ≤ length h.blocks * block_size_limit) c.self.view_is
    (subst (λ n. n ≤ length (blocks_in c.self.inside.blocks) * block_size_limit) (sym c.self.invariant.counted) (bytes_bounded (blocks_in c.self.inside.blocks) c.self.invariant.sized))
