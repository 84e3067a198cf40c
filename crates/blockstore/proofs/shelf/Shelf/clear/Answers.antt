use Rattle.std.proofs.Common.{rules, ◌≡◌, ◌∙◌, ap, subst, sym, map}
use Rattle.std.proofs.lemmas.Map.Made.{map_same_pairs}
use Rattle.blockstore.specs.Placed.{Held, cleared, blocks_in}
use Rattle.blockstore.specs.Keys.{IsLinkOf, IsAgeOf}
use Rattle.blockstore.proofs.Sizes.{bytes_of, AreSized}
use Rattle.blockstore.proofs.Clearing.{AreCleared, bare_of, blocks_cleared, keyed_cleared, keys_cleared, none_noted, bytes_bare, sized_bare}
use Rattle.blockstore.proofs.shelf.Shelf.clear.Goals as goal

pub invariant_of-self : goal.invariant_of-self
invariant_of-self g c =
    let m = c.self.inside.blocks in
    let p = c.retain.new.self in
    let are : AreCleared m p = map_same_pairs _ cleared _ (λ k v b w f' t. search rules) _ _ c.retain.ensures.filtered in
    record {
      ordered = c.retain.ensures.ordered;
      keyed = keyed_cleared m p are c.self.invariant.keyed;
      links = keys_cleared m p are IsLinkOf _ c.self.invariant.links;
      ages = keys_cleared m p are IsAgeOf _ c.self.invariant.ages;
      counted = c.self.invariant.counted ∙ sym (ap bytes_of (blocks_cleared m p are) ∙ bytes_bare (blocks_in m));
      sized = subst AreSized (sym (blocks_cleared m p are)) (sized_bare (blocks_in m) c.self.invariant.sized);
    }

pub returns-clause-blocks : goal.returns-clause-blocks
returns-clause-blocks g c =
    let m = c.self.inside.blocks in
    let p = c.retain.new.self in
    let are : AreCleared m p = map_same_pairs _ cleared _ (λ k v b w f' t. search rules) _ _ c.retain.ensures.filtered in
    subst (λ (h : Held). blocks_in p ≡ map bare_of h.blocks) c.self.view_is (blocks_cleared m p are)

pub returns-clause-notes : goal.returns-clause-notes
returns-clause-notes g c =
    let m = c.self.inside.blocks in
    let p = c.retain.new.self in
    let are : AreCleared m p = map_same_pairs _ cleared _ (λ k v b w f' t. search rules) _ _ c.retain.ensures.filtered in
    none_noted m p are
