use Rattle.std.proofs.Common.{◌≡◌, ◌∙◌, subst, sym, Contains, List, ℕ}
use Rattle.model.specs.Block.{block_hash_of}
use Rattle.blockstore.specs.Stored.{Stored}
use Rattle.blockstore.specs.Shelves.{HasNone}
use Rattle.blockstore.proofs.shelf.Shelf.with_hash.Goals as goal

pub returns-in_default : goal.returns-in_default
returns-in_default g c = subst (λ (hash : List ℕ). HasNone c.args.self.now.blocks hash) c.of.ensures c.in_default.ensures.found

pub returns : goal.returns
returns g c =
    let found = c.in-Some.ensures.found in
    subst (λ (x : Stored). Contains c.args.self.now.blocks x × (block_hash_of x.block ≡ c.args.hash.bytes)) (sym c.stored.ensures) (found.0, found.1 ∙ c.of.ensures)
