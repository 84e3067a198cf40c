use Rattle.std.proofs.Common.{◌≡◌, ◌++◌, ◌∷◌, [], ℕ, ◌+◌, ◌*◌, ◌^◌, ◌<◌, ◌≤◌, length, arith, inl, inr, ap, subst, sym, ◌∙◌, List, Option, None, Some}
use Rattle.std.specs.Prelude.{is_some, if◌then◌else◌}
use Rattle.std.specs.List.{list_any}
use Rattle.std.specs.BTreeMap.{get, is_at, btree_map_len}
use Rattle.model.specs.Block.{Block, block_hash_of}
use Rattle.blockstore.specs.Placed.{Placed, Held, stored_at, blocks_in, notes_in}
use Rattle.blockstore.specs.Keys.{hash_cmp, link_cmp, age_cmp, IsLinkOf, IsAgeOf, AreKeysOf}
use Rattle.blockstore.specs.Shelves.{IsSame, HasNone}
use Rattle.blockstore.specs.Ways.{IsNotedAt}
use Rattle.blockstore.specs.declared.keys.Link.{Link}
use Rattle.blockstore.specs.declared.keys.Age.{Age}
use Rattle.blockstore.proofs.KeySets.{BecomesAt, becomes, exact_link, exact_age, link_names, one_link, age_names, one_age, keys_put, keys_same, keys_undone, key_is_free, on_ok, on_err, new_len}
use Rattle.block.specs.Read.{IsRead}
use Rattle.blockstore.specs.Stored.{Stored}
use Rattle.model.specs.Limits.{block_size_limit}
use Rattle.model.proofs.BlockTexts.{block_text_is}
use Rattle.std.proofs.lemmas.List.Elements.{Contains-push_cases}
use Rattle.blockstore.proofs.Sizes.{size_of, bytes_of, AreSized, bytes_with, bytes_bounded}
use Rattle.blockstore.proofs.Shelves.{unchanged_at, blocks_unchanged, distinct_on, none_placed, noted_becomes, free_at, keyed_put, same_put}
use Rattle.blockstore.proofs.shelf.Shelf.put.Goals as goal

pub invariant_of-self-then-is_err : goal.invariant_of-self-then-is_err
invariant_of-self-then-is_err g c =
    let m = c.self.inside.blocks in
    let b = c.args.placed.stored.block in
    let link : IsLinkOf b c.of-link.result = subst (λ (x : Block). IsLinkOf x c.of-link.result) c.block.ensures c.of-link.ensures in
    let free : stored_at m (block_hash_of b) ≡ None =
    free_at m (block_hash_of b) c.self.invariant.keyed (subst (λ (h : Held). HasNone h.blocks (block_hash_of b)) (sym c.self.view_is) c.requires.alone) in
    let same : c.insert-2.new.self.keys ≡ c.self.inside.ages.keys = on_err _ c.insert-2.result c.if-is_err.ensures.value c.insert-2.ensures.err in
    record {
      ordered = c.self.invariant.ordered;
      keyed = c.self.invariant.keyed;
      counted = c.self.invariant.counted;
      sized = c.self.invariant.sized;
      links = keys_undone link_cmp exact_link IsLinkOf (λ (l : Link). l.hash) link_names one_link c.self.inside.links c.insert.new.self c.remove.new.self (stored_at m) c.of-link.result c.self.invariant.links
          c.in_ok-insert.ensures.updates c.remove.ensures.updates
          (key_is_free link_cmp exact_link IsLinkOf (λ (l : Link). l.hash) link_names one_link c.self.inside.links (stored_at m) c.of-link.result b c.self.invariant.links link free c.self.invariant.keyed);
      ages = subst (λ (ks : List Age). AreKeysOf IsAgeOf (λ k. list_any (is_at (age_cmp k)) ks) (stored_at m)) (sym same) c.self.invariant.ages;
    }

pub invariant_of-self-then-is_err-2 : goal.invariant_of-self-then-is_err-2
invariant_of-self-then-is_err-2 g c =
    let m = c.self.inside.blocks in
    let b = c.args.placed.stored.block in
    let link : IsLinkOf b c.of-link.result = subst (λ (x : Block). IsLinkOf x c.of-link.result) c.block.ensures c.of-link.ensures in
    let age : IsAgeOf b c.of-age.result = subst (λ (x : Block). IsAgeOf x c.of-age.result) c.block-2.ensures c.of-age.ensures in
    let free : stored_at m (block_hash_of b) ≡ None =
    free_at m (block_hash_of b) c.self.invariant.keyed (subst (λ (h : Held). HasNone h.blocks (block_hash_of b)) (sym c.self.view_is) c.requires.alone) in
    let same : c.insert-3.new.self.entries ≡ m.entries = on_err _ c.insert-3.result c.if-is_err-2.ensures.value c.insert-3.ensures.err in
    let came = on_ok _ c.insert-2.result c.if-is_err.ensures.value c.insert-2.ensures.updates in
    record {
      ordered = c.insert-3.ensures.ordered;
      keyed = λ q x there. c.self.invariant.keyed q x (sym (unchanged_at m c.insert-3.new.self same q) ∙ there);
      counted = c.self.invariant.counted ∙ ap bytes_of (sym (blocks_unchanged m c.insert-3.new.self same));
      sized = subst AreSized (sym (blocks_unchanged m c.insert-3.new.self same)) c.self.invariant.sized;
      links = keys_same IsLinkOf _ (stored_at m) (stored_at c.insert-3.new.self) (unchanged_at m c.insert-3.new.self same)
          (keys_undone link_cmp exact_link IsLinkOf (λ (l : Link). l.hash) link_names one_link c.self.inside.links c.insert.new.self c.remove-then-is_err-2.new.self (stored_at m) c.of-link.result c.self.invariant.links
          c.in_ok-insert.ensures.updates c.remove-then-is_err-2.ensures.updates
          (key_is_free link_cmp exact_link IsLinkOf (λ (l : Link). l.hash) link_names one_link c.self.inside.links (stored_at m) c.of-link.result b c.self.invariant.links link free c.self.invariant.keyed));
      ages = keys_same IsAgeOf _ (stored_at m) (stored_at c.insert-3.new.self) (unchanged_at m c.insert-3.new.self same)
          (keys_undone age_cmp exact_age IsAgeOf (λ (a : Age). a.hash) age_names one_age c.self.inside.ages c.insert-2.new.self c.remove-then-is_err-2-2.new.self (stored_at m) c.of-age.result c.self.invariant.ages
          came c.remove-then-is_err-2-2.ensures.updates
          (key_is_free age_cmp exact_age IsAgeOf (λ (a : Age). a.hash) age_names one_age c.self.inside.ages (stored_at m) c.of-age.result b c.self.invariant.ages age free c.self.invariant.keyed));
    }

pub invariant_of-self-2 : goal.invariant_of-self-2
invariant_of-self-2 g c =
    let m = c.self.inside.blocks in
    let p = c.insert-3.new.self in
    let x = c.args.placed in
    let hash = c.of-link.result.hash in
    let link : IsLinkOf x.stored.block c.of-link.result = subst (λ (b : Block). IsLinkOf b c.of-link.result) c.block.ensures c.of-link.ensures in
    let age : IsAgeOf x.stored.block c.of-age.result = subst (λ (b : Block). IsAgeOf b c.of-age.result) c.block-2.ensures c.of-age.ensures in
    let free : stored_at m hash ≡ None =
    ap (stored_at m) link.1 ∙ free_at m (block_hash_of x.stored.block) c.self.invariant.keyed (subst (λ (h : Held). HasNone h.blocks (block_hash_of x.stored.block)) (sym c.self.view_is) c.requires.alone) in
    let came = on_ok _ c.insert-2.result c.if-is_err.ensures.value c.insert-2.ensures.updates in
    let put : BecomesAt (stored_at m) (stored_at p) hash (Some x.stored) = becomes m p hash (Some x) (on_ok _ c.insert-3.result c.if-is_err-2.ensures.value c.insert-3.ensures.updates) in
    let len : btree_map_len p ≡ btree_map_len m + 1 =
    new_len (λ (old : Option Placed). btree_map_len m + (if is_some old then 0 else 1)) (get hash_cmp m hash) (btree_map_len p) c.insert-3.result c.if-is_err-2.ensures.value c.insert-3.ensures.old c.insert-3.ensures.len (none_placed (get hash_cmp m hash) free) in
    let keyed = keyed_put m p hash x.stored (sym link.1) put c.self.invariant.keyed in
    let same = same_put m p hash x.stored (sym link.1) put c.self.invariant.keyed free c.self.invariant.ordered c.insert-3.ensures.ordered len in
    let read : IsRead x.stored.block c.bytes.result.now = subst (λ (b : Block). IsRead b c.bytes.result.now) c.block-3.ensures c.bytes.ensures in
    let size : size_of x.stored ≡ length c.bytes.result.now = ap length (block_text_is x.stored.block c.bytes.result.now read.read) in
    record {
      ordered = c.insert-3.ensures.ordered;
      keyed = keyed;
      links = keys_put link_cmp exact_link IsLinkOf (λ (l : Link). l.hash) link_names one_link c.self.inside.links c.insert.new.self (stored_at m) (stored_at p) c.of-link.result hash x.stored c.self.invariant.links
          c.in_ok-insert.ensures.updates put free link;
      ages = keys_put age_cmp exact_age IsAgeOf (λ (a : Age). a.hash) age_names one_age c.self.inside.ages c.insert-2.new.self (stored_at m) (stored_at p) c.of-age.result hash x.stored c.self.invariant.ages came put free age;
      counted = (λ i. c.self.invariant.counted i + sym size i) ∙ sym (bytes_with (blocks_in m) (blocks_in p) x.stored same (distinct_on p c.insert-3.ensures.ordered keyed));
      sized = λ y member. elim (Contains-push_cases (blocks_in m) x.stored y ((same.members y).0 member)) [
        | inl was ↦ c.self.invariant.sized y was
        | inr is ↦ subst (λ (z : Stored). size_of z ≤ block_size_limit) is (subst (λ n. n ≤ block_size_limit) (sym size) read.size)
      ];
    }

pub returns-clause-ok : goal.returns-clause-ok
returns-clause-ok g c =
    let m = c.self.inside.blocks in
    let p = c.insert-3.new.self in
    let x = c.args.placed in
    let hash = c.of-link.result.hash in
    let link : IsLinkOf x.stored.block c.of-link.result = subst (λ (b : Block). IsLinkOf b c.of-link.result) c.block.ensures c.of-link.ensures in
    let free : stored_at m hash ≡ None =
    ap (stored_at m) link.1 ∙ free_at m (block_hash_of x.stored.block) c.self.invariant.keyed (subst (λ (h : Held). HasNone h.blocks (block_hash_of x.stored.block)) (sym c.self.view_is) c.requires.alone) in
    let put : BecomesAt (stored_at m) (stored_at p) hash (Some x.stored) = becomes m p hash (Some x) (on_ok _ c.insert-3.result c.if-is_err-2.ensures.value c.insert-3.ensures.updates) in
    let len : btree_map_len p ≡ btree_map_len m + 1 =
    new_len (λ (old : Option Placed). btree_map_len m + (if is_some old then 0 else 1)) (get hash_cmp m hash) (btree_map_len p) c.insert-3.result c.if-is_err-2.ensures.value c.insert-3.ensures.old c.insert-3.ensures.len (none_placed (get hash_cmp m hash) free) in
    subst (λ (h : Held). IsSame (blocks_in p) (h.blocks ++ x.stored ∷ [])) c.self.view_is
    (same_put m p hash x.stored (sym link.1) put c.self.invariant.keyed free c.self.invariant.ordered c.insert-3.ensures.ordered len)

pub returns-clause-notes : goal.returns-clause-notes
returns-clause-notes g c =
    let m = c.self.inside.blocks in
    let x = c.args.placed in
    let link : IsLinkOf x.stored.block c.of-link.result = subst (λ (b : Block). IsLinkOf b c.of-link.result) c.block.ensures c.of-link.ensures in
    let noted = noted_becomes m c.insert-3.new.self c.of-link.result.hash (Some x) (on_ok _ c.insert-3.result c.if-is_err-2.ensures.value c.insert-3.ensures.updates) in
    subst (λ (h : Held). IsNotedAt (block_hash_of x.stored.block) x.reached h.notes (notes_in c.insert-3.new.self)) c.self.view_is
    (subst (λ (q : List ℕ). IsNotedAt q x.reached (notes_in m) (notes_in c.insert-3.new.self)) link.1 noted)

pub overflow_add-self : goal.overflow_add-self
overflow_add-self g c =
    let m = c.self.inside.blocks in
    let most = subst (λ n. n ≤ length (blocks_in m) * block_size_limit) (sym c.self.invariant.counted) (bytes_bounded (blocks_in m) c.self.invariant.sized) in
    let few : length (blocks_in m) < 2 ^ 64 = subst (λ (h : Held). length h.blocks < 2 ^ 64) (sym c.self.view_is) c.requires.few in
    let size = c.bytes.ensures.size in
    omega (arith, most, few, size)
