use Rattle.std.proofs.Common.{◌≡◌, true, List, Contains, sym, subst}
use Rattle.std.specs.BTreeSet.{contains}
use Rattle.std.proofs.lemmas.List.Elements.{All-contains}
use Rattle.blockstore.specs.Placed.{Held, held_in}
use Rattle.blockstore.specs.Keys.{age_cmp}
use Rattle.blockstore.specs.OffWays.{AreUnnoted, unnoted_at}
use Rattle.blockstore.specs.declared.keys.Age.{Age}
use Rattle.blockstore.proofs.OffWays.{are_unnoted}
use Rattle.blockstore.proofs.shelf.Shelf.unnoted.Goals as goal

pub returns : goal.returns
returns g c =
    let a = c.self.inside in
    let has : (k : Age) → Contains a.ages.keys k → contains age_cmp a.ages k ≡ true =
    λ k member. All-contains (λ (j : Age). contains age_cmp a.ages j ≡ true) a.ages.keys k c.iter.ensures.found member in
    subst (λ (h : Held). AreUnnoted h (unnoted_at a.blocks c.iter.result)) c.self.view_is
    (subst (λ (ks : List Age). AreUnnoted (held_in a.blocks) (unnoted_at a.blocks ks)) (sym c.iter.ensures.rest)
    (are_unnoted a.blocks c.self.invariant.keyed a.ages c.self.invariant.ordered c.iter.ensures.ordered c.self.invariant.ages has))
