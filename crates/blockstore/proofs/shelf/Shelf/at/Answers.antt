use Rattle.std.proofs.Common.{◌≡◌, subst, MatchOption, Contains}
use Rattle.model.specs.Block.{block_hash_of}
use Rattle.blockstore.specs.Placed.{Held, is_noted}
use Rattle.blockstore.specs.Shelves.{HasNone, AreApart}
use Rattle.blockstore.proofs.Shelves.{look_up, apart_on}
use Rattle.blockstore.proofs.shelf.Shelf.at.Goals as goal

pub returns-clause-found : goal.returns-clause-found
returns-clause-found g c =
    let hash = c.args.hash.now in
    subst (λ (h : Held). MatchOption c.get.result (HasNone h.blocks hash)
    (λ found. Contains h.blocks found.now.stored × (block_hash_of found.now.stored.block ≡ hash) × (is_noted h.notes hash ≡ found.now.reached))) c.self.view_is
    (look_up c.self.inside.blocks hash c.get.result c.self.invariant.ordered c.self.invariant.keyed c.get.ensures.value)

pub returns-clause-apart : goal.returns-clause-apart
returns-clause-apart g c = subst (λ (h : Held). AreApart h.blocks) c.self.view_is (apart_on c.self.inside.blocks c.self.invariant.ordered c.self.invariant.keyed)
