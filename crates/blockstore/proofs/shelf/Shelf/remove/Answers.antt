use Rattle.std.proofs.Common.{◌≡◌, ◌≢◌, ◌↔◌, ◌+◌, ℕ, length, ap, subst, sym, ◌∙◌, refl, false, arith, List, Option, Some, None, Contains}
use Rattle.std.specs.Prelude.{is_some, if◌then◌else◌}
use Rattle.std.specs.BTreeMap.{get, btree_map_len}
use Rattle.std.proofs.lemmas.Option.{same_Some}
use Rattle.model.specs.Block.{Block}
use Rattle.block.specs.View.{tip_of}
use Rattle.std.specs.Prelude.{option_map}
use Rattle.blockstore.specs.Stored.{Stored}
use Rattle.blockstore.specs.Placed.{Placed, Held, stored_at, blocks_in, notes_in}
use Rattle.blockstore.specs.Keys.{hash_cmp, link_cmp, age_cmp, IsLinkOf, IsAgeOf}
use Rattle.blockstore.specs.Shelves.{IsWithout}
use Rattle.blockstore.specs.Ways.{IsNotedAt, IsPlaceOf}
use Rattle.blockstore.specs.declared.keys.Link.{Link}
use Rattle.blockstore.specs.declared.keys.Age.{Age}
use Rattle.blockstore.proofs.KeySets.{becomes, exact_link, exact_age, link_names, one_link, age_names, one_age, keys_take}
use Rattle.block.specs.Read.{IsRead}
use Rattle.model.specs.Block.{block_hash_of}
use Rattle.model.proofs.BlockTexts.{block_text_is}
use Rattle.blockstore.proofs.Sizes.{size_of, bytes_of, bytes_without}
use Rattle.blockstore.proofs.Shelves.{value_at, distinct_on, stands_at, placed_at, holds_at, len_in, keyed_took, left_of, noted_becomes, place_at}
use Rattle.blockstore.proofs.shelf.Shelf.remove.Goals as goal

pub returns-in_default : goal.returns-in_default
returns-in_default g c =
    let m = c.self.inside.blocks in
    let member : Contains (blocks_in m) c.requires.block = subst (λ (h : Held). Contains h.blocks c.requires.block) (sym c.self.view_is) c.requires.member in
    let there : stored_at m c.args.age.hash ≡ Some c.requires.block =
    subst (λ (q : List ℕ). stored_at m q ≡ Some c.requires.block) (sym c.requires.is.1) (holds_at m c.self.invariant.ordered c.self.invariant.keyed c.requires.block member) in
    let at = placed_at (get hash_cmp m c.args.age.hash) c.requires.block there in
    absurd (c.in_default.not-Some at.0 (c.remove.ensures.value ∙ at.1))

pub invariant_of-self-2 : goal.invariant_of-self-2
invariant_of-self-2 g c =
    let m = c.self.inside.blocks in
    let p = c.remove.new.self in
    let stored : Stored = c.in-Some.gone.stored in
    let hash = c.args.age.hash in
    let member : Contains (blocks_in m) c.requires.block = subst (λ (h : Held). Contains h.blocks c.requires.block) (sym c.self.view_is) c.requires.member in
    let there : stored_at m hash ≡ Some c.requires.block =
    subst (λ (q : List ℕ). stored_at m q ≡ Some c.requires.block) (sym c.requires.is.1) (holds_at m c.self.invariant.ordered c.self.invariant.keyed c.requires.block member) in
    let here : stored_at m hash ≡ Some stored = stands_at m hash c.in-Some.gone (sym c.remove.ensures.value ∙ c.in-Some.is) in
    let one : c.requires.block ≡ stored = same_Some c.requires.block stored (sym there ∙ here) in
    let link : IsLinkOf stored.block c.of-link.result = subst (λ (b : Block). IsLinkOf b c.of-link.result) c.block.ensures c.of-link.ensures in
    let age : IsAgeOf stored.block c.args.age = subst (λ (x : Stored). IsAgeOf x.block c.args.age) one c.requires.is in
    let took = becomes m p hash None c.remove.ensures.updates in
    let keyed = keyed_took m p hash took c.self.invariant.keyed in
    let left = left_of m p hash took c.self.invariant.keyed c.self.invariant.ordered c.remove.ensures.ordered in
    let total : bytes_of (blocks_in m) ≡ size_of stored + bytes_of (blocks_in p) =
    bytes_without (blocks_in m) (blocks_in p) stored (value_at m hash stored here) (distinct_on m c.self.invariant.ordered c.self.invariant.keyed) (distinct_on p c.remove.ensures.ordered keyed)
    (subst (λ (h : List ℕ). (y : Stored) → Contains (blocks_in p) y ↔ (Contains (blocks_in m) y × (block_hash_of y.block ≢ h))) (sym (c.self.invariant.keyed hash stored here)) left) in
    let read : IsRead stored.block c.bytes.result.now = subst (λ (b : Block). IsRead b c.bytes.result.now) c.block-2.ensures c.bytes.ensures in
    let size : size_of stored ≡ length c.bytes.result.now = ap length (block_text_is stored.block c.bytes.result.now read.read) in
    let counted = c.self.invariant.counted in
    record {
      ordered = c.remove.ensures.ordered;
      keyed = keyed;
      links = keys_take link_cmp exact_link IsLinkOf (λ (l : Link). l.hash) link_names one_link c.self.inside.links c.remove-2.new.self (stored_at m) (stored_at p) c.of-link.result hash stored c.self.invariant.links
          c.remove-2.ensures.updates took here link (link.1 ∙ c.self.invariant.keyed hash stored here) c.self.invariant.keyed;
      ages = keys_take age_cmp exact_age IsAgeOf (λ (a : Age). a.hash) age_names one_age c.self.inside.ages c.remove-3.new.self (stored_at m) (stored_at p) c.args.age hash stored c.self.invariant.ages
          c.remove-3.ensures.updates took here age refl c.self.invariant.keyed;
      counted = omega (arith, counted, total, size);
      sized = λ y member. c.self.invariant.sized y ((left y).0 member).0;
    }

pub returns-clause-blocks : goal.returns-clause-blocks
returns-clause-blocks g c =
    let m = c.self.inside.blocks in
    let p = c.remove.new.self in
    let hash = c.args.age.hash in
    let took = becomes m p hash None c.remove.ensures.updates in
    let len : btree_map_len p + 1 ≡ btree_map_len m =
    subst (λ (r : Option Placed). btree_map_len p + (if is_some r then 1 else 0) ≡ btree_map_len m) c.in-Some.is c.remove.ensures.len in
    subst (λ (h : Held). IsWithout h.blocks c.args.age (blocks_in p)) c.self.view_is
    (record {
      members = left_of m p hash took c.self.invariant.keyed c.self.invariant.ordered c.remove.ensures.ordered;
      count = let a = len_in p in let b = len_in m in omega (arith, len, a, b);
    })

pub returns-clause-notes : goal.returns-clause-notes
returns-clause-notes g c =
    subst (λ (h : Held). IsNotedAt c.args.age.hash false h.notes (notes_in c.remove.new.self)) c.self.view_is
    (noted_becomes c.self.inside.blocks c.remove.new.self c.args.age.hash None c.remove.ensures.updates)

pub returns-clause-place : goal.returns-clause-place
returns-clause-place g c =
    subst (λ (h : Held). IsPlaceOf h c.args.age.hash (option_map tip_of c.place.result)) c.self.view_is
    (place_at c.self.inside.blocks c.args.age.hash c.in-Some.gone (option_map tip_of c.place.result) c.self.invariant.keyed (sym c.remove.ensures.value ∙ c.in-Some.is) c.place.ensures)

pub overflow_sub-self : goal.overflow_sub-self
overflow_sub-self g c =
    let m = c.self.inside.blocks in
    let p = c.remove.new.self in
    let stored : Stored = c.in-Some.gone.stored in
    let hash = c.args.age.hash in
    let here : stored_at m hash ≡ Some stored = stands_at m hash c.in-Some.gone (sym c.remove.ensures.value ∙ c.in-Some.is) in
    let took = becomes m p hash None c.remove.ensures.updates in
    let keyed = keyed_took m p hash took c.self.invariant.keyed in
    let left = left_of m p hash took c.self.invariant.keyed c.self.invariant.ordered c.remove.ensures.ordered in
    let total : bytes_of (blocks_in m) ≡ size_of stored + bytes_of (blocks_in p) =
    bytes_without (blocks_in m) (blocks_in p) stored (value_at m hash stored here) (distinct_on m c.self.invariant.ordered c.self.invariant.keyed) (distinct_on p c.remove.ensures.ordered keyed)
    (subst (λ (h : List ℕ). (y : Stored) → Contains (blocks_in p) y ↔ (Contains (blocks_in m) y × (block_hash_of y.block ≢ h))) (sym (c.self.invariant.keyed hash stored here)) left) in
    let read : IsRead stored.block c.bytes.result.now = subst (λ (b : Block). IsRead b c.bytes.result.now) c.block-2.ensures c.bytes.ensures in
    let size : size_of stored ≡ length c.bytes.result.now = ap length (block_text_is stored.block c.bytes.result.now read.read) in
    let counted = c.self.invariant.counted in
    omega (arith, counted, total, size)
