use Rattle.std.proofs.Common.{◌≡◌, ◌∙◌, ℕ, List, Some, sym, ap, subst}
use Rattle.std.specs.Option.{option_copied_mut}
use Rattle.std.specs.BTreeMap.{BTreeMap, IsOrdered, get}
use Rattle.blockstore.specs.Placed.{Placed, held_in, stored_at, AreSameBlocks}
use Rattle.blockstore.specs.Keys.{hash_cmp, IsLinkOf, IsAgeOf}
use Rattle.blockstore.specs.HeldShelf.{IsInStep}
use Rattle.blockstore.specs.declared.shelf.Shelf.TheInside.{Inside}
use Rattle.blockstore.proofs.KeySets.{keys_same}
use Rattle.blockstore.proofs.Sizes.{AreSized, bytes_of}
use Rattle.blockstore.proofs.Shelves.{rewritten, held_same, same_blocks, keyed_same, stored_same, blocks_same}
use Rattle.blockstore.proofs.shelf.Shelf.hold.Goals as goal
use Rattle.blockstore.proofs.shelf.Shelf.hold.Goals.{in-Some, in_default}

-- a shelf whose blocks have the same entries keeps step
in_step : {S : Type 0} (a : Inside S) (p : BTreeMap (List ℕ) Placed) → p.entries ≡ a.blocks.entries → IsOrdered hash_cmp p → IsInStep a → IsInStep {S = S} (record { blocks = p; links = a.links; ages = a.ages; bytes = a.bytes })
in_step a p entries ordered i =
    let m : BTreeMap (List ℕ) Placed = a.blocks in
    let same : AreSameBlocks m p = same_blocks m p entries in
    record {
      ordered = ordered;
      keyed = keyed_same m p same i.keyed;
      links = keys_same IsLinkOf _ (stored_at m) (stored_at p) (stored_same m p same) i.links;
      ages = keys_same IsAgeOf _ (stored_at m) (stored_at p) (stored_same m p same) i.ages;
      counted = i.counted ∙ ap bytes_of (sym (blocks_same m p same));
      sized = subst AreSized (sym (blocks_same m p same)) i.sized;
    }

pub invariant_of-self : goal.invariant_of-self
invariant_of-self g c =
    let m = c.self.inside.blocks in
    elim c.match-get_mut.branch [
      | in-Some w ↦
          let y = w.hold.new.self in
          let p = c.get_mut.follows.lender y in
          let found : get hash_cmp m c.of.result ≡ Some w.in-Some.placed.now = sym c.get_mut.ensures.value ∙ ap option_copied_mut w.in-Some.is in
          let entries = rewritten m p c.of.result w.in-Some.placed.now y found w.hold.ensures (c.get_mut.follows.holds y).0 in
          subst IsInStep (sym w.self-inside-is) (in_step c.self.inside p entries (c.get_mut.follows.holds y).4 c.self.invariant)
      | in_default w ↦
          subst IsInStep (sym w.self-inside-is)
          (in_step c.self.inside c.get_mut.follows.lender-at-none (ap (λ (x : BTreeMap (List ℕ) Placed). x.entries) c.get_mut.follows.holds-at-none)
          (subst (IsOrdered hash_cmp) (sym c.get_mut.follows.holds-at-none) c.self.invariant.ordered) c.self.invariant)
    ]

pub returns : goal.returns
returns g c =
    let m = c.self.inside.blocks in
    elim c.match-get_mut.branch [
      | in-Some w ↦
          let y = w.hold.new.self in
          let p = c.get_mut.follows.lender y in
          let found : get hash_cmp m c.of.result ≡ Some w.in-Some.placed.now = sym c.get_mut.ensures.value ∙ ap option_copied_mut w.in-Some.is in
          let entries = rewritten m p c.of.result w.in-Some.placed.now y found w.hold.ensures (c.get_mut.follows.holds y).0 in
          ap (λ (i : Inside _). held_in i.blocks) w.self-inside-is ∙ (held_same m p entries ∙ c.self.view_is)
      | in_default w ↦
          let entries = ap (λ (x : BTreeMap (List ℕ) Placed). x.entries) c.get_mut.follows.holds-at-none in
          ap (λ (i : Inside _). held_in i.blocks) w.self-inside-is ∙ (held_same m c.get_mut.follows.lender-at-none entries ∙ c.self.view_is)
    ]
