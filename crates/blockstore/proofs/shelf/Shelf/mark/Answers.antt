use Rattle.std.proofs.Common.{◌≡◌, ◌∙◌, ℕ, false, ap, subst, sym, refl, map, List, Some, None}
use Rattle.std.specs.Prelude.{is_some, option_map}
use Rattle.std.specs.Option.{option_copied_mut}
use Rattle.std.specs.BTreeMap.{get}
use Rattle.std.specs.BTreeMap as tree
use Rattle.block.specs.View.{tip_of}
use Rattle.blockstore.specs.Stored.{marked}
use Rattle.blockstore.specs.Placed.{Placed, Held, Notes, is_noted, stored_at, blocks_in, notes_in, held_in}
use Rattle.blockstore.specs.Tests.{marked_at}
use Rattle.blockstore.specs.Keys.{hash_cmp, link_cmp, age_cmp, IsLinkOf, IsAgeOf}
use Rattle.blockstore.specs.Shelves.{IsSame, AreApart}
use Rattle.blockstore.specs.Ways.{IsNotedAt, IsPlaceOf}
use Rattle.blockstore.specs.declared.keys.Link.{Link}
use Rattle.blockstore.specs.declared.keys.Age.{Age}
use Rattle.blockstore.proofs.KeySets.{BecomesAt, becomes, exact_link, exact_age, link_names, one_link, age_names, one_age, keys_marked}
use Rattle.blockstore.proofs.Shelves.{stands_at, none_at, apart_on, noted_none, noted_becomes, place_at, distinct_on, keyed_marked, same_marked, same_unmarked, none_found}
use Rattle.blockstore.proofs.Sizes.{bytes_marked, sized_marked}
use Rattle.blockstore.proofs.shelf.Shelf.mark.Goals as goal

pub returns-in_default-clause-blocks : goal.returns-in_default-clause-blocks
returns-in_default-clause-blocks g c =
    let m = c.self.inside.blocks in
    let n = c.get_mut.follows.lender-at-none in
    let none : get hash_cmp m c.of.result ≡ None = sym c.get_mut.ensures.value ∙ ap option_copied_mut (none_found c.get_mut.result c.in_default.not-Some) in
    subst (λ (h : Held). IsSame (blocks_in n) (map (marked_at c.args.hash.bytes) h.blocks)) c.self.view_is
    (subst (λ (q : List ℕ). IsSame (blocks_in n) (map (marked_at q) (blocks_in m))) c.of.ensures
    (same_unmarked m n c.of.result c.self.invariant.ordered c.self.invariant.keyed (none_at m c.of.result none) (ap (λ (x : tree.BTreeMap (List ℕ) Placed). x.entries) c.get_mut.follows.holds-at-none)))

pub returns-in_default-clause-notes : goal.returns-in_default-clause-notes
returns-in_default-clause-notes g c =
    let m = c.self.inside.blocks in
    let n = c.get_mut.follows.lender-at-none in
    let none : get hash_cmp m c.of.result ≡ None = sym c.get_mut.ensures.value ∙ ap option_copied_mut (none_found c.get_mut.result c.in_default.not-Some) in
    let is : notes_in n ≡ notes_in m = ap (λ (x : tree.BTreeMap (List ℕ) Placed). notes_in x) c.get_mut.follows.holds-at-none in
    subst (λ (h : Held). IsNotedAt c.args.hash.bytes false h.notes (notes_in n)) c.self.view_is
    (subst (λ (q : List ℕ). IsNotedAt q false (notes_in m) (notes_in n)) c.of.ensures
    (subst (λ (ns : Notes). IsNotedAt c.of.result false (notes_in m) ns) (sym is) (record { here = noted_none m c.of.result none; others = λ q other. refl })))

pub returns-in_default-clause-place : goal.returns-in_default-clause-place
returns-in_default-clause-place g c =
    let m = c.self.inside.blocks in
    let none : get hash_cmp m c.of.result ≡ None = sym c.get_mut.ensures.value ∙ ap option_copied_mut (none_found c.get_mut.result c.in_default.not-Some) in
    subst (λ (h : Held). is_noted h.notes c.args.hash.bytes ≡ false) c.self.view_is
    (subst (λ (q : List ℕ). is_noted (notes_in m) q ≡ false) c.of.ensures (noted_none m c.of.result none))

pub returns-in_default-clause-apart : goal.returns-in_default-clause-apart
returns-in_default-clause-apart g c =
    subst (λ (n : tree.BTreeMap (List ℕ) Placed). AreApart (blocks_in n)) (sym c.get_mut.follows.holds-at-none) (apart_on c.self.inside.blocks c.self.invariant.ordered c.self.invariant.keyed)

pub invariant_of-self-2 : goal.invariant_of-self-2
invariant_of-self-2 g c =
    let m = c.self.inside.blocks in
    let q = c.of.result in
    let x = c.in-Some.placed.now in
    let p = c.get_mut.follows.lender c.mark.new.self in
    let holds = c.get_mut.follows.holds c.mark.new.self in
    let found : get hash_cmp m q ≡ Some x = sym c.get_mut.ensures.value ∙ ap option_copied_mut c.in-Some.is in
    let wrote : BecomesAt (stored_at m) (stored_at p) q (Some (marked x.stored)) =
    subst (λ (w : Placed). BecomesAt (stored_at m) (stored_at p) q (Some w.stored)) c.mark.ensures.marked (becomes m p q (Some c.mark.new.self) (holds.3 (ap is_some found))) in
    let there = stands_at m q x found in
    let same = same_marked m p q x.stored there wrote c.self.invariant.keyed c.self.invariant.ordered holds.4 holds.2 in
    let keyed = keyed_marked m p q x.stored there wrote c.self.invariant.keyed in
    record {
      ordered = holds.4;
      keyed = keyed;
      links = keys_marked link_cmp exact_link IsLinkOf (λ (l : Link). l.hash) link_names one_link c.self.inside.links (stored_at m) (stored_at p) q x.stored (marked x.stored) c.self.invariant.links wrote there refl;
      ages = keys_marked age_cmp exact_age IsAgeOf (λ (a : Age). a.hash) age_names one_age c.self.inside.ages (stored_at m) (stored_at p) q x.stored (marked x.stored) c.self.invariant.ages wrote there refl;
      counted = c.self.invariant.counted ∙ sym (bytes_marked (blocks_in m) (blocks_in p) q same (distinct_on p holds.4 keyed));
      sized = sized_marked (blocks_in m) (blocks_in p) q same c.self.invariant.sized;
    }

pub returns-clause-blocks : goal.returns-clause-blocks
returns-clause-blocks g c =
    let m = c.self.inside.blocks in
    let q = c.of.result in
    let x = c.in-Some.placed.now in
    let p = c.get_mut.follows.lender c.mark.new.self in
    let holds = c.get_mut.follows.holds c.mark.new.self in
    let found : get hash_cmp m q ≡ Some x = sym c.get_mut.ensures.value ∙ ap option_copied_mut c.in-Some.is in
    let wrote : BecomesAt (stored_at m) (stored_at p) q (Some (marked x.stored)) =
    subst (λ (w : Placed). BecomesAt (stored_at m) (stored_at p) q (Some w.stored)) c.mark.ensures.marked (becomes m p q (Some c.mark.new.self) (holds.3 (ap is_some found))) in
    subst (λ (h : Held). IsSame (blocks_in p) (map (marked_at c.args.hash.bytes) h.blocks)) c.self.view_is
    (subst (λ (h : List ℕ). IsSame (blocks_in p) (map (marked_at h) (blocks_in m))) c.of.ensures
    (same_marked m p q x.stored (stands_at m q x found) wrote c.self.invariant.keyed c.self.invariant.ordered holds.4 holds.2))

pub returns-clause-notes : goal.returns-clause-notes
returns-clause-notes g c =
    let m = c.self.inside.blocks in
    let q = c.of.result in
    let p = c.get_mut.follows.lender c.mark.new.self in
    let found : get hash_cmp m q ≡ Some c.in-Some.placed.now = sym c.get_mut.ensures.value ∙ ap option_copied_mut c.in-Some.is in
    let noted : IsNotedAt q false (notes_in m) (notes_in p) =
    subst (λ (w : Placed). IsNotedAt q w.reached (notes_in m) (notes_in p)) c.mark.ensures.marked (noted_becomes m p q (Some c.mark.new.self) ((c.get_mut.follows.holds c.mark.new.self).3 (ap is_some found))) in
    subst (λ (h : Held). IsNotedAt c.args.hash.bytes false h.notes (notes_in p)) c.self.view_is
    (subst (λ (h : List ℕ). IsNotedAt h false (notes_in m) (notes_in p)) c.of.ensures noted)

pub returns-clause-place : goal.returns-clause-place
returns-clause-place g c =
    let m = c.self.inside.blocks in
    let q = c.of.result in
    let found : get hash_cmp m q ≡ Some c.in-Some.placed.now = sym c.get_mut.ensures.value ∙ ap option_copied_mut c.in-Some.is in
    subst (λ (h : Held). IsPlaceOf h c.args.hash.bytes (option_map tip_of c.mark.result)) c.self.view_is
    (subst (λ (h : List ℕ). IsPlaceOf (held_in m) h (option_map tip_of c.mark.result)) c.of.ensures
    (place_at m q c.in-Some.placed.now (option_map tip_of c.mark.result) c.self.invariant.keyed found c.mark.ensures.place))

pub returns-clause-apart : goal.returns-clause-apart
returns-clause-apart g c =
    let m = c.self.inside.blocks in
    let q = c.of.result in
    let x = c.in-Some.placed.now in
    let p = c.get_mut.follows.lender c.mark.new.self in
    let holds = c.get_mut.follows.holds c.mark.new.self in
    let found : get hash_cmp m q ≡ Some x = sym c.get_mut.ensures.value ∙ ap option_copied_mut c.in-Some.is in
    let wrote : BecomesAt (stored_at m) (stored_at p) q (Some (marked x.stored)) =
    subst (λ (w : Placed). BecomesAt (stored_at m) (stored_at p) q (Some w.stored)) c.mark.ensures.marked (becomes m p q (Some c.mark.new.self) (holds.3 (ap is_some found))) in
    apart_on p holds.4 (keyed_marked m p q x.stored (stands_at m q x found) wrote c.self.invariant.keyed)
